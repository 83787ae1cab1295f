-- What the tables hold, byte by byte: digits, '-', '+' and spaces.
use Rattle.std.specs.Prelude.{ℕ, ◌+◌, List, [], ◌∷◌, ◌++◌, map, get_or, Bool, true, false, cond, ltb, eqb}
use Rattle.rules.specs.declared.Side.TheVariants.{FrontSide}
use Rattle.rules.specs.declared.End.{End}
use Rattle.rules.specs.declared.End.TheVariants.{Leftmost, Rightmost}
use Rattle.rules.specs.declared.Policy.{Policy}
use Rattle.rules.specs.declared.Policy.TheVariants.{Exact, Return, Traversal, Midpoint, Composite, Largest}
use Rattle.rules.specs.declared.Action.{Action}
use Rattle.rules.specs.declared.Kind.{Kind}
use Rattle.rules.specs.declared.Kind.TheVariants.{Void as VOID, Bottom as BOTTOM, Top as TOP, Gap as GAP, Once as ONCE, Twice as TWICE}
use Rattle.rules.specs.declared.Passage.{Passage}
use Rattle.rules.specs.Plans.{kind_rank}
use Rattle.rules.specs.BestPlan.{passages_in_order, passage_rank}
use Rattle.rules.specs.Policies.{kinds_named, action_named, passage_named}
use Rattle.rules.specs.Machine.{State, lawful_step, traversal_step, midpoint_by, cross_step, may_enter}
use Rattle.machine.specs.declared.Automaton.{Automaton}
use Rattle.machine.specs.declared.Automaton.TheVariants.{Lawful, TraversalRight, Midpoint as MidpointOrLargest, TraversalLeft}
use Rattle.machine.specs.States.{state_code, state_of}
use Rattle.machine.specs.Steps.{sample_action}

-- the automaton of a policy: EXACT, RETURN and COMPOSITE have the lawful one, MIDPOINT and LARGEST share one, TRAVERSAL has one for each end
abbrev pub automaton_of : Policy → End → Automaton
automaton_of Exact end = Lawful
automaton_of Return end = Lawful
automaton_of Traversal Leftmost = TraversalLeft
automaton_of Traversal Rightmost = TraversalRight
automaton_of Midpoint end = MidpointOrLargest
automaton_of Composite end = Lawful
automaton_of Largest end = MidpointOrLargest

-- the number of an automaton's part in a row, and its digit in a policy's row
abbrev pub automaton_number : Automaton → ℕ
automaton_number Lawful = 0
automaton_number TraversalRight = 1
automaton_number MidpointOrLargest = 2
automaton_number TraversalLeft = 3

-- the state after an action by an automaton's rows
abbrev pub automaton_by : Automaton → Bool → Action → State → State
automaton_by Lawful between a s = lawful_step a s
automaton_by TraversalRight between a s = traversal_step Rightmost a s
automaton_by MidpointOrLargest between a s = midpoint_by between a s
automaton_by TraversalLeft between a s = traversal_step Leftmost a s

-- a digit, or '-' for what a policy lacks
abbrev pub digit_if : Bool → ℕ → ℕ
digit_if b n = cond b (48 + n) 45

-- whether a policy asks the test for aisles between
abbrev pub asks_between : Policy → Bool
asks_between Exact = false
asks_between Return = false
asks_between Traversal = false
asks_between Midpoint = true
asks_between Composite = false
asks_between Largest = true

-- the kinds of action of which it is asked
abbrev pub is_tested : Kind → Bool
is_tested VOID = false
is_tested BOTTOM = true
is_tested TOP = true
is_tested GAP = true
is_tested ONCE = false
is_tested TWICE = false

-- whether a policy's test for aisles between is the largest gap
abbrev pub asks_gap : Policy → Bool
asks_gap Exact = false
asks_gap Return = false
asks_gap Traversal = false
asks_gap Midpoint = false
asks_gap Composite = false
asks_gap Largest = true

-- 'h' where a policy asks the halves of aisles between, 'g' where it asks the largest gap, '-' where it asks nothing
abbrev pub test_mark : Policy → ℕ
test_mark policy = cond (asks_between policy) (cond (asks_gap policy) 103 104) 45

-- the row of a policy: TRAVERSAL has one for each end
abbrev pub row_of : Policy → End → ℕ
row_of Exact end = 0
row_of Return end = 1
row_of Traversal Leftmost = 6
row_of Traversal Rightmost = 2
row_of Midpoint end = 3
row_of Composite end = 4
row_of Largest end = 5

-- a policy's row: its kinds, a space, its passages, a space, its automaton, a space, '+' or '-' for open aisles that hold no listed article,
-- a space, its test for aisles between
unfoldable pub policy_row : Policy → End → List ℕ
policy_row policy end =
    map (λ k. digit_if (action_named FrontSide policy (sample_action k)) (kind_rank k)) (kinds_named FrontSide Exact)
    ++ (32 ∷ map (λ p. digit_if (passage_named FrontSide policy p) (passage_rank p)) passages_in_order
    ++ (32 ∷ (48 + automaton_number (automaton_of policy end)) ∷ 32 ∷ cond (may_enter policy false) 43 45 ∷ 32 ∷ test_mark policy ∷ []))

-- what stands in a column of it
abbrev pub policy_mark : Policy → End → ℕ → ℕ
policy_mark policy end column = get_or (policy_row policy end) column 0

-- the next state by an automaton's rows, or 9 where the test for aisles between decides
unfoldable pub action_mark : (kind : Kind) (automaton : Automaton) (state : ℕ) → ℕ
action_mark k m s =
    let yes = state_code (automaton_by m true (sample_action k) (state_of s)) in
    cond (eqb yes (state_code (automaton_by m false (sample_action k) (state_of s)))) yes 9

-- the state that such a mark stands for: 9 is odd or dead
unfoldable pub decided : ℕ → Bool → ℕ
decided mark between = cond (ltb mark 9) mark (cond between 4 8)

-- the next state behind a passage, by the number of the place
unfoldable pub passage_mark : (passage : Passage) (place state : ℕ) → ℕ
passage_mark p place s = state_code (cross_step 1 place p (state_of s))
