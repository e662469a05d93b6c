-- `claims::hold` meets its contract: every claim holds.
use Rattle.claims.proofs.Answers.{codes-by-checks, values-are, resumes-only-sret}
use Rattle.claims.proofs.Refusals.{refusals-change-nothing}
use Rattle.claims.proofs.WellMade.{well-made-stays, cut_fits, cut-traps}
use Rattle.claims.proofs.Marks.{other-marks-stay}
use Rattle.claims.proofs.Served.{cleared-marks-served}
use Rattle.claims.proofs.Words.{dirty-words-stay}
use Rattle.claims.proofs.Readings.{clean-words-read}
use Rattle.claims.proofs.Slots.{only-named-slots-change, named-slots-removed}
use Rattle.claims.proofs.Unreadable.{unreadable-removes-all}
use Rattle.claims.proofs.Bytes.{other-bytes-stay}
use Rattle.claims.proofs.Blank.{set-page-blank}
use Rattle.claims.proofs.Fields.{other-fields-stay}
use Rattle.claims.proofs.Sret.{sret-left}
use Rattle.claims.proofs.InsideCounted.{no-refusal}
use Rattle.claims.proofs.Trap.{trap-named, guests-come-back}
use Rattle.claims.proofs.Singly.{each-singly}
use Rattle.claims.proofs.Totals.{steps-counted}
use Rattle.claims.proofs.Finished.{finished-is-whole}
use Rattle.claims.proofs.Restart.{call-restartable}
use Rattle.claims.proofs.Dropped.{count-stays-out, refusals-say-nothing, count-is-raised, stops-but-count}
use Rattle.claims.proofs.SinglyCounted.{each-singly-counted}
use Rattle.claims.proofs.SaidBits.{register-says, sret-says, trap-says, runs-say, others-say-nothing, reports-are-few}
use Rattle.claims.proofs.hold.Goals as goal

pub returns : goal.returns
returns c = record {
  codes = codes-by-checks;
  values = values-are;
  resumes = resumes-only-sret;
  refusals = refusals-change-nothing;
  cut-numbers = cut_fits;
  cut-traps = cut-traps;
  well-made = well-made-stays;
  other-marks = other-marks-stay;
  cleared-marks = cleared-marks-served;
  dirty-words = dirty-words-stay;
  clean-words = clean-words-read;
  other-slots = only-named-slots-change;
  named-slots = named-slots-removed;
  unreadable = unreadable-removes-all;
  other-bytes = other-bytes-stay;
  blank = set-page-blank;
  other-fields = other-fields-stay;
  sret = sret-left;
  inside = no-refusal;
  trap = trap-named;
  back = guests-come-back;
  singly = each-singly;
  steps = steps-counted;
  finished = finished-is-whole;
  restartable = call-restartable;
  dropped =
      record {
        stays_out = count-stays-out;
        refusals = refusals-say-nothing;
        raised = count-is-raised;
        restartable = stops-but-count;
        singly = each-singly-counted;
        register = register-says;
        sret = sret-says;
        trap = trap-says;
        runs = runs-say;
        others = others-say-nothing;
        few = reports-are-few;
      };
}
