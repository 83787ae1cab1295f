-- Walking by the largest gap: the LARGEST tour of a job is at most as long as its MIDPOINT tour.
use Prim.Native.Nat.{ℕ, ◌≤◌}
use native.Mathlib.Omega.{arith}
use mathlib.Core.Path.{◌≡◌, refl, ap}
use mathlib.Core.List.{List}
use mathlib.Core.Option.{some}
use lib.ListN.{length}
use Rattle.rules.specs.declared.Policy.TheVariants.{Midpoint, Largest}
use Rattle.rules.specs.Jobs.{Job, job_under}
use Rattle.rules.specs.JobFile.{numeral, field, header, layout_text, layout_section_text, record_text, line_text, section_text, job_text}
use Rattle.rules.specs.JobFile.{is_digit, is_number, read_field, read_header, read_policy_as, read_policy, read_layout, read_posts}
use Rattle.rules.specs.JobFile.{read_record, read_line, read_section, read_layout_section, read_sections, read_job}
use Rattle.rules.specs.Refusals.{work_limit}
use Rattle.rules.specs.Answers.{sheet_limit}
use Rattle.rules.specs.Examples.{stocked, ◌⨯◌, own_job, beta_with, cells_between, four_between, largest_cases}
use Rattle.rules.proofs.Admission.{admitted, admitted_under}
use Rattle.rules.proofs.Cases.{largest_cases_hold}
use Rattle.optimum.proofs.Compared.{largest_no_longer}
use Rattle.promises.specs.Contents.{Content, content_of}
use Rattle.promises.specs.Calls.{Shows}
use Rattle.promises.proofs.Shown.{best, shown_best, job_shown}

-- both sheets show best plans of the job, under the one word and under the other
pub at_most : (job : Job) (bytes sheet work others space area : List ℕ) (c d : Content)
    → Shows bytes sheet work (job_under Midpoint job) c → Shows others space area (job_under Largest job) d → d.length ≤ c.length
unfolding content_of
at_most job bytes sheet work others space area c d midpoint largest =
    let (a, e) = shown_best bytes sheet work (job_under Midpoint job) c midpoint in
    let (b, f) = shown_best others space area (job_under Largest job) d largest in
    let shorter = largest_no_longer job (admitted_under job.policy (job_under Midpoint job) a) in
    omega (arith, ap (λ (x : Content). x.length) e, ap (λ (x : Content). x.length) f, shorter)

-- the texts of the first of the request's cases, under both words, are read
four_read : (read_job (job_text (four_between Midpoint)) ≡ some (four_between Midpoint)) × (read_job (job_text (four_between Largest)) ≡ some (four_between Largest))
unfolding ◌⨯◌ stocked own_job beta_with cells_between four_between job_text layout_section_text numeral field header layout_text record_text line_text section_text
    is_digit is_number read_field read_header read_policy_as read_policy read_layout read_posts read_record read_line read_section read_layout_section read_sections
    read_job
four_read = (refl, refl)

module _ (sheet work : List ℕ) (space : sheet_limit ≤ length sheet) (numbers : work_limit ≤ length work) where
  -- they are served, with 26 and 24
  pub met : (c : Content) × (d : Content) × Shows (job_text (four_between Midpoint)) sheet work (job_under Midpoint (four_between Midpoint)) c
      × Shows (job_text (four_between Largest)) sheet work (job_under Largest (four_between Midpoint)) d × (c.length ≡ 26) × (d.length ≡ 24)
  unfolding content_of own_job beta_with cells_between four_between largest_cases
  met =
      let midpoint = largest_cases_hold.0.0 in
      let largest = largest_cases_hold.1.0.0 in (
        best (four_between Midpoint),
        best (four_between Largest),
        job_shown sheet work space numbers (four_between Midpoint) four_read.0 ((admitted (four_between Midpoint)).0 midpoint.admitted),
        job_shown sheet work space numbers (four_between Largest) four_read.1 ((admitted (four_between Largest)).0 largest.admitted),
        midpoint.length,
        largest.length,
      )
