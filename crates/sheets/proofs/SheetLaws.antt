-- The sheet by its parts is the sheet of the definitions.
use Rattle.std.proofs.Common.{ℕ, ◌≡◌, refl, List, [], ◌∷◌, ◌++◌, append-nil}
use Rattle.rules.specs.declared.Pick.{Pick}
use Rattle.rules.specs.declared.Run.{Run}
use Rattle.rules.specs.Jobs.{Job}
use Rattle.rules.specs.Plans.{Plan, plan_length}
use Rattle.rules.specs.Picks.{picks_of}
use Rattle.rules.specs.FirstWalk.{first_walk}
use Rattle.rules.specs.JobFile.{header, section_text}
use Rattle.rules.specs.Sheet.{letter_t, total_text, runs_of, sheet_of}
use Rattle.lines.specs.declared.Total.{Total}
use Rattle.lines.specs.Written.{total_line_text}
use Rattle.sheets.specs.Parts.{sheet_of_parts}

-- with the length, the picks and the runs that the definitions give, the parts make the sheet of the plan
pub sheet_of_parts_lem : (job : Job) (plan : Plan) (total : ℕ) (picks : List Pick) (runs : List Run)
    → total ≡ plan_length job.layout plan
    → picks ≡ picks_of job plan
    → runs ≡ runs_of (first_walk job.layout plan)
    → sheet_of_parts job.policy total plan picks runs ≡ sheet_of job plan
unfolding sheet_of_parts sheet_of
sheet_of_parts_lem job plan total picks runs t p r = rw (t, p, r) refl

-- the T section has one line
pub total_section : (total : Total) → section_text letter_t total_line_text (total ∷ []) ≡ header letter_t 1 ++ total_text total.length total.policy
unfolding section_text
total_section total = rw append-nil refl
