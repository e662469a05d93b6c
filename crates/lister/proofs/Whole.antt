-- The whole listing, for a page and for an image of another length.
use mathlib.Core.Path.{◌≡◌, ap, ◌∙◌}
use mathlib.Core.List.{List}
use Prim.Native.Nat.{ℕ}
use native.Mathlib.Omega.{arith}
use borrow.Author.Tests.{eq-eqb, ne_eqb}
use lib.ListN.{length}
use Rattle.text.specs.Ascii.{ascii}
use Rattle.text.specs.Buffer.{Wrote, filled}
use Rattle.text.proofs.Writing.{over-start}
use Rattle.layout.specs.declared.xlen.Xlen.{Xlen}
use Rattle.layout.specs.declared.xlen.Xlen.TheVariants.{X32, X64}
use Rattle.layout.specs.Width.{bytes}
use Rattle.layout.specs.Geometry.{page_size}
use Rattle.page.specs.Registers.{IsPage}
use Rattle.lister.specs.Listing.{page_lines, listing, Listed}
use Rattle.lister.proofs.Sizes.{length-listing}

-- a text that is the listing, written from the start on
whole : (image : List ℕ) {s d e : List ℕ} {r : ℕ} → s ≡ listing image → Wrote d 0 s e r
    → Listed image d e r
whole image {s} {d} {e} {r} same w =
    let long : r ≡ length (listing image) = rw (← same) (omega (arith, w.place)) in
    record { bytes = w.bytes ∙ over-start s d ∙ ap (filled d) same; size = long; within = omega (arith, length-listing image) }

module _ (image : List ℕ) {d e : List ℕ} {r : ℕ} where
  -- a page's lines are the listing of an image of that length
  pub page-listed : (x : Xlen) → IsPage x image → Wrote d 0 (page_lines x image) e r → Listed image d e r
  unfolding listing
  page-listed X32 h w = whole image (rw (eq-eqb (length image) (page_size (bytes X32)) h)) w
  page-listed X64 h w =
      let wide : length image ≡ page_size (bytes X32) → ⊥ = λ n. omega arith in
      whole image (rw (ne_eqb (length image) (page_size (bytes X32)) wide, eq-eqb (length image) (page_size (bytes X64)) h)) w

  pub bad-length : (IsPage X32 image → ⊥) → (IsPage X64 image → ⊥) → Wrote d 0 (ascii "bad length\n") e r → Listed image d e r
  unfolding listing
  bad-length h k w =
      whole image (rw (ne_eqb (length image) (page_size (bytes X32)) h, ne_eqb (length image) (page_size (bytes X64)) k)) w
