-- No one text is the sheet of every served call: store α, 7×2, gets different sheets under EXACT and under TRAVERSAL.
use Prim.Native.Nat.{ℕ}
use native.Mathlib.Omega.{arith}
use mathlib.Core.Path.{◌≡◌, refl, sym, ◌∙◌, ap}
use mathlib.Core.List.{List, [], ◌∷◌}
use mathlib.Core.Option.{none, some}
use lib.ListN.{length, take, replicate, length-replicate}
use Rattle.rules.specs.declared.Policy.{Policy}
use Rattle.rules.specs.declared.Policy.TheVariants.{Exact, Traversal}
use Rattle.std.specs.declared.result.Result.TheVariants.{Ok}
use Rattle.rules.specs.Jobs.{Job}
use Rattle.rules.specs.JobFile.{numeral, field, header, layout_text, layout_section_text, record_text, line_text, section_text, job_text}
use Rattle.rules.specs.JobFile.{is_digit, is_number, read_field, read_header, read_policy_as, read_policy, read_layout, read_posts, read_record, read_line, read_section, read_layout_section, read_sections, read_job}
use Rattle.rules.specs.Refusals.{job_refusal, work_limit}
use Rattle.rules.specs.Answers.{sheet_limit, answer}
use Rattle.rules.specs.Examples.{stocked, ◌⨯◌, alpha, cases}
use Rattle.rules.proofs.Admission.{admitted}
use Rattle.rules.proofs.Cases.{cases_hold}
use Rattle.planner.proofs.Space.{sheet_suffices}
use Rattle.promises.specs.Contents.{Content, content_text, content_of}
use Rattle.promises.proofs.Table.{job_file_read, admitted_served, served_for}
use Rattle.promises.proofs.Texts.{content_determined}
use Rattle.promises.proofs.Shown.{best, shown}

-- the job of the cases 3 and 4
abbrev two_sevens : Policy → Job
two_sevens = alpha ((7 ⨯ 2) ∷ [])

-- every served call shows one text
abbrev OneSheet : List ℕ → Type 0
OneSheet text = (bytes sheet work : List ℕ) (n : ℕ) → (answer bytes sheet work).reply ≡ Ok n → take n (answer bytes sheet work).sheet ≡ text

-- the text is then that of every job that is read and admitted
the_sheet : (text : List ℕ) → OneSheet text → (job : Job) → read_job (job_text job) ≡ some job → job_refusal job ≡ none → content_text (best job) ≡ text
the_sheet text one job read passes = go (replicate sheet_limit 0) (replicate work_limit 0) (length-replicate {A = ℕ} sheet_limit 0) (length-replicate {A = ℕ} work_limit 0)
  where
    bytes : List ℕ
    bytes = job_text job

    go : (sheet work : List ℕ) → length sheet ≡ sheet_limit → length work ≡ work_limit → content_text (best job) ≡ text
    go sheet work space numbers =
        let a = (admitted job).0 passes in
        let none_applies = admitted_served bytes sheet work job read a (omega arith) (omega (arith, sheet_suffices job a)) in
        let (other, s) = shown bytes sheet work _ (ap (λ x. x.reply) (served_for bytes sheet work none_applies).2) in
        let again = (job_file_read bytes other).1 s.file in
        let same : job ≡ other = cc in
        ap (λ j. content_text (best j)) same ∙ sym s.text ∙ one bytes sheet work (length (content_text (best other))) s.served

-- both files can be read
file_read : (read_job (job_text (two_sevens Exact)) ≡ some (two_sevens Exact)) × (read_job (job_text (two_sevens Traversal)) ≡ some (two_sevens Traversal))
unfolding ◌⨯◌ stocked alpha job_text layout_section_text numeral field header layout_text record_text line_text section_text is_digit is_number read_field read_header read_policy_as read_policy read_layout read_posts read_record read_line read_section read_layout_section read_sections read_job
file_read = (refl, refl)

-- "one fixed sheet for all jobs"
pub sheets_vary : (text : List ℕ) → OneSheet text → ⊥
unfolding alpha cases content_of
sheets_vary text one =
    let case3 = cases_hold.1.1.0 in
    let case4 = cases_hold.1.1.1.0 in
    let e = the_sheet text one (two_sevens Exact) file_read.0 case3.0.admitted in
    let f = the_sheet text one (two_sevens Traversal) file_read.1 case4.0.admitted in
    let same = ap (λ (c : Content). c.policy) (content_determined (best (two_sevens Exact)) (best (two_sevens Traversal)) (e ∙ sym f)) in
    let z : ◌≡◌ {A = ℕ} 0 1 = cc in
    omega arith
