-- The sheet whose parts are given: the policy, the length, the plan, the picks and the runs of the walk.
use Rattle.std.specs.Prelude.{ℕ, List, ◌++◌}
use Rattle.rules.specs.declared.Policy.{Policy}
use Rattle.rules.specs.declared.Pick.{Pick}
use Rattle.rules.specs.declared.Run.{Run}
use Rattle.rules.specs.Plans.{Plan}
use Rattle.values.specs.FixedLists.{items}
use Rattle.values.specs.Values.{plan_of}
use Rattle.sheets.specs.declared.Sheet.{Sheet}
use Rattle.rules.specs.JobFile.{header, section_text}
use Rattle.rules.specs.Sheet.{letter_t, letter_a, letter_c, letter_p, letter_w, total_text, action_text, passage_text, pick_text, run_text}

-- the sections T, A, C, P, W
unfoldable pub sheet_of_parts : Policy → ℕ → Plan → List Pick → List Run → List ℕ
sheet_of_parts policy total plan picks runs =
    (header letter_t 1 ++ total_text total policy)
    ++ (section_text letter_a action_text plan.actions
    ++ (section_text letter_c passage_text plan.passages
    ++ (section_text letter_p pick_text picks
    ++ section_text letter_w run_text runs)))

-- the text of what stands on a sheet
abbrev pub text_of : Sheet → List ℕ
text_of s = sheet_of_parts s.policy s.length (plan_of s.plan.now) (items s.picks.now) (items s.runs.now)
