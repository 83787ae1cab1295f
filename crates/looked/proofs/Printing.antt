-- The answer of the job reader tells what the program prints.
use Prim.Native.Nat.{ℕ, ◌≤◌}
use native.Mathlib.Omega.{arith}
use native.Mathlib.Nat.{mul-le-mul}
use mathlib.Core.Path.{◌≡◌, refl, sym, ap, ◌∙◌}
use mathlib.Core.List.{List, [], ◌∷◌}
use mathlib.Core.Bool.{Bool, true, false, cond}
use mathlib.Core.Option.{Option, none, some}
use lib.ListN.{length}
use Rattle.rules.specs.declared.Refusal.{Refusal}
use Rattle.rules.specs.Jobs.{Job}
use Rattle.rules.specs.JobFile.{line_feed, numeral, field, read_job}
use Rattle.rules.specs.Refusals.{job_refusal}
use Rattle.rules.specs.Looked.{looked, stock_tested, looked_on, looked_in, handed_on, looked_text}
use Rattle.rules.proofs.Admission.{stock_within, list_within}
use Rattle.rules.proofs.Looked.{looked_most, stock_tested_lem}
use Rattle.lines.proofs.Sizes.{digits_most}
use Rattle.jobfile.specs.declared.ReadJob.{ReadJob}
use Rattle.jobfile.specs.Answer.{verdict_of, answer_to}
use Rattle.looked.specs.Verdicts.{refusal_of}

-- the refusal of a verdict is the one that it was made of
same_refusal : (o : Option Refusal) → refusal_of (verdict_of o) ≡ o
same_refusal none = refl
same_refusal (some x) = refl

-- the number that is handed on is at most 384 records times 8 lines
few : (o : Option Job) → (answer_to o).looked ≤ 3072
unfolding answer_to looked_on
few none = omega arith
few (some job) = go (stock_tested (job_refusal job)) refl
  where
    go : (b : Bool) → stock_tested (job_refusal job) ≡ b → handed_on (cond b (some (looked job)) none) ≤ 3072
    go false t = omega arith
    go true t =
        let o = (stock_tested_lem job).0 t in
        let most = mul-le-mul ((stock_within job).0 o.stock).count ((list_within job).0 o.list).count in
        omega (arith, looked_most job, most)

-- so it has at most four digits
pub few_digits : (bytes : List ℕ) (r : ReadJob) → r ≡ answer_to (read_job bytes) → length (numeral r.looked) ≤ 4
few_digits bytes r e = let h = few (read_job bytes) in digits_most 3 r.looked (omega (arith, ap (λ (a : ReadJob). a.looked) e))

-- what is printed, whether the stock test was made or not
abbrev shown : Bool → ℕ → List ℕ
shown true n = field line_feed n
shown false n = 45 ∷ line_feed ∷ []

-- that is the text of the number
text_shown : (bytes : List ℕ) → shown (stock_tested (refusal_of (answer_to (read_job bytes)).verdict)) (answer_to (read_job bytes)).looked ≡ looked_text (looked_in bytes)
unfolding answer_to looked_in looked_on
text_shown bytes = go (read_job bytes)
  where
    by : (b : Bool) (n : ℕ) → shown b (handed_on (cond b (some n) none)) ≡ looked_text (cond b (some n) none)
    by true n = refl
    by false n = refl

    go : (o : Option Job) → shown (stock_tested (refusal_of (answer_to o).verdict)) (answer_to o).looked ≡ looked_text (elim o [ none ↦ none | some job ↦ looked_on job ])
    go none = refl
    go (some job) =
        ap (λ r. shown (stock_tested r) (handed_on (looked_on job))) (same_refusal (job_refusal job))
        ∙ by (stock_tested (job_refusal job)) (looked job)

module _ (bytes : List ℕ) (r : ReadJob) (e : r ≡ answer_to (read_job bytes)) where
  -- by the answer
  text_of : (b : Bool) → b ≡ stock_tested (refusal_of r.verdict) → shown b r.looked ≡ looked_text (looked_in bytes)
  text_of b t = ap (λ c. shown c r.looked) t ∙ ap (λ (a : ReadJob). shown (stock_tested (refusal_of a.verdict)) a.looked) e ∙ text_shown bytes

  -- the test was made: the number
  pub number_printed : (b : Bool) → b ≡ stock_tested (refusal_of r.verdict) → b ≡ true → field line_feed r.looked ≡ looked_text (looked_in bytes)
  number_printed b t made = text_of true (sym made ∙ t)

  -- it was not
  pub dash_printed : (b : Bool) → b ≡ stock_tested (refusal_of r.verdict) → b ≡ false → 45 ∷ line_feed ∷ [] ≡ looked_text (looked_in bytes)
  dash_printed b t not_made = text_of false (sym not_made ∙ t)
