-- The extension's number and those of its five calls.
use Rattle.std.specs.Prelude.{ℕ}

-- "NACL"
abbrev pub eid_nacl : ℕ
eid_nacl = 0x4E41434C

-- FID 0 probe
abbrev pub fid_probe : ℕ
fid_probe = 0

-- FID 1 set
abbrev pub fid_set : ℕ
fid_set = 1

-- FID 2 sync CSR
abbrev pub fid_csr : ℕ
fid_csr = 2

-- FID 3 sync fence
abbrev pub fid_fence : ℕ
fid_fence = 3

-- FID 4 sync SRET
abbrev pub fid_sret : ℕ
fid_sret = 4
