-- The tables, made by their rules: each row is compared with the constant, and read at one entry.
use Prim.Native.Nat.{ℕ, zero, suc, ◌≤◌, ◌+◌, ◌-◌, ◌*◌, ◌/◌, ◌%◌, ◌<◌}
use native.Mathlib.Omega.{arith}
use mathlib.Core.Path.{◌≡◌, refl, sym, ◌∙◌, ap}
use mathlib.Core.Bool.{Bool, true, false, cond, not}
use mathlib.Core.List.{List, map}
use lib.Dec.{eqb}
use lib.ListN.{get_or, take, drop}
use lib.Seq.{get_or-take, get_or-drop}
use borrow.Author.Tests.{ne_eqb, eq-eqb, lt-ltb}
use denote.Enum.Declared.{tag_of}
use denote.Enum.Bare.{sameb}
use Rattle.rules.specs.contracts.Kind as KindType
use Rattle.rules.specs.contracts.Passage as PassageType
use Rattle.machine.specs.contracts.Automaton as AutomatonType
use Rattle.machine.specs.contracts.Place as PlaceType
use Rattle.rules.specs.declared.Side.TheVariants.{FrontSide}
use Rattle.rules.specs.declared.End.{End}
use Rattle.rules.specs.declared.End.TheVariants.{Leftmost, Rightmost}
use Rattle.rules.specs.declared.Policy.{Policy}
use Rattle.rules.specs.declared.Policy.TheVariants.{Exact, Return, Traversal, Midpoint, Composite, Largest}
use Rattle.rules.specs.declared.Action.{Action}
use Rattle.rules.specs.declared.Action.TheVariants.{Once}
use Rattle.rules.specs.declared.Kind.{Kind}
use Rattle.rules.specs.declared.Kind.TheVariants.{Void as VOID, Bottom as BOTTOM, Top as TOP, Gap as GAP, Once as ONCE, Twice as TWICE}
use Rattle.rules.specs.declared.Passage.{Passage}
use Rattle.rules.specs.declared.Passage.TheVariants.{P00, P02, P11, P20, P22}
use Rattle.rules.specs.Lists.{from}
use Rattle.rules.specs.Plans.{kind_rank}
use Rattle.rules.specs.BestPlan.{passages_in_order, passage_rank}
use Rattle.rules.specs.Policies.{action_named, passage_named}
use Rattle.rules.specs.Machine.{State, nothing, closed, at_front, at_back, odd, joined, split, ending, dead, row, lawful_step, traversal_step, midpoint_by, policy_by, may_enter, is_void}
use Rattle.machine.specs.declared.TheConstants.{POLICIES, ACTIONS, PASSAGES}
use Rattle.machine.specs.declared.Automaton.{Automaton}
use Rattle.machine.specs.declared.Automaton.TheVariants.{Lawful, TraversalRight, Midpoint as MidpointOrLargest, TraversalLeft}
use Rattle.machine.specs.declared.Place.{Place}
use Rattle.machine.specs.declared.Place.TheVariants.{Left, At, Right}
use Rattle.machine.specs.States.{state_code, state_of}
use Rattle.machine.specs.Steps.{place_number, sample_action}
use Rattle.machine.proofs.StepLaws.{state_small}
use Rattle.machine.specs.Tables.{asks_between, asks_gap, automaton_of, automaton_number, automaton_by, digit_if, row_of, policy_row, policy_mark, action_mark, passage_mark, decided}

-- the numbers that `as usize` gives kinds, passages and places
pub kind_tag : (k : Kind) → tag_of KindType.the_type k ≡ kind_rank k
kind_tag VOID = refl
kind_tag BOTTOM = refl
kind_tag TOP = refl
kind_tag GAP = refl
kind_tag ONCE = refl
kind_tag TWICE = refl

pub passage_tag : (p : Passage) → tag_of PassageType.the_type p ≡ passage_rank p
passage_tag P00 = refl
passage_tag P02 = refl
passage_tag P11 = refl
passage_tag P20 = refl
passage_tag P22 = refl

pub place_tag : (place : Place) → tag_of PlaceType.the_type place ≡ place_number place
place_tag Left = refl
place_tag At = refl
place_tag Right = refl

pub automaton_tag : (a : Automaton) → tag_of AutomatonType.the_type a ≡ automaton_number a
automaton_tag Lawful = refl
automaton_tag TraversalRight = refl
automaton_tag MidpointOrLargest = refl
automaton_tag TraversalLeft = refl

-- an entry of a row that stands in a table from a place on
entry_lem : (table part : List ℕ) (a n k : ℕ) → take n (drop a table) ≡ part → k < n → get_or table (a + k) 0 ≡ get_or part k 0
entry_lem table part a n k e k< = sym (get_or-drop a table k 0) ∙ sym (get_or-take n (drop a table) k 0 k<) ∙ ap (λ r. get_or r k 0) e

-- POLICIES: eighteen columns to a row
pub policy_entry : (policy : Policy) (end : End) (c : ℕ) → c < 18 → get_or POLICIES (row_of policy end * 18 + c) 0 ≡ policy_mark policy end c
unfolding policy_row passages_in_order
policy_entry Exact end c c< = entry_lem POLICIES (policy_row Exact end) 0 18 c refl c<
policy_entry Return end c c< = entry_lem POLICIES (policy_row Return end) 18 18 c refl c<
policy_entry Traversal Leftmost c c< = entry_lem POLICIES (policy_row Traversal Leftmost) 108 18 c refl c<
policy_entry Traversal Rightmost c c< = entry_lem POLICIES (policy_row Traversal Rightmost) 36 18 c refl c<
policy_entry Midpoint end c c< = entry_lem POLICIES (policy_row Midpoint end) 54 18 c refl c<
policy_entry Composite end c c< = entry_lem POLICIES (policy_row Composite end) 72 18 c refl c<
policy_entry Largest end c c< = entry_lem POLICIES (policy_row Largest end) 90 18 c refl c<

-- a row of ACTIONS or PASSAGES: so many parts, in each nine digits and a space
abbrev parts : ℕ → (ℕ → ℕ → ℕ) → List ℕ
parts n f = map (λ i. cond (eqb (i % 10) 9) 32 (48 + f (i / 10) (i % 10))) (from 0 (n * 10))

entry_from : (f : ℕ → ℕ) (n a k : ℕ) → k < n → get_or (map f (from a n)) k 0 ≡ f (a + k)
entry_from f zero a k h = absurd (omega arith)
entry_from f (suc n) a zero h = ap f (omega arith)
entry_from f (suc n) a (suc k) h = entry_from f n (suc a) k (omega arith) ∙ ap f (omega arith)

part_lem : (n : ℕ) (f : ℕ → ℕ → ℕ) (m s : ℕ) → m < n → s < 9 → get_or (parts n f) (m * 10 + s) 0 ≡ 48 + f m s
part_lem n f m s m< s< =
    let i = 0 + (m * 10 + s) in
    let m-is : i / 10 ≡ m = omega arith in
    let s-is : i % 10 ≡ s = omega arith in
    entry_from (λ i. cond (eqb (i % 10) 9) 32 (48 + f (i / 10) (i % 10))) (n * 10) 0 (m * 10 + s) (omega arith)
    ∙ rw (m-is, s-is, ne_eqb s 9 (λ e. omega arith)) refl

-- such a row in a table, from a place on
row_lem : (table : List ℕ) (n a : ℕ) (f : ℕ → ℕ → ℕ) (m s : ℕ) → take (n * 10) (drop a table) ≡ parts n f → m < n → s < 9
    → get_or table (a + m * 10 + s) 0 ≡ 48 + f m s
row_lem table n a f m s e m< s< =
    let same : a + m * 10 + s ≡ a + (m * 10 + s) = omega arith in
    rw same (entry_lem table (parts n f) a (n * 10) (m * 10 + s) e (omega arith)) ∙ part_lem n f m s m< s<

-- ACTIONS has four parts, the automata
abbrev pub automaton_at : ℕ → Automaton
automaton_at zero = Lawful
automaton_at (suc zero) = TraversalRight
automaton_at (suc (suc zero)) = MidpointOrLargest
automaton_at (suc (suc (suc m))) = TraversalLeft

-- there are four automata
pub automaton_small : (a : Automaton) → automaton_number a < 4
automaton_small Lawful = omega arith
automaton_small TraversalRight = omega arith
automaton_small MidpointOrLargest = omega arith
automaton_small TraversalLeft = omega arith

action_part : (k : Kind) (m s : ℕ) → m < 4 → s < 9 → get_or ACTIONS (kind_rank k * 40 + m * 10 + s) 0 ≡ 48 + action_mark k (automaton_at m) s
unfolding action_mark
action_part VOID m s m< s< = row_lem ACTIONS 4 0 (λ m s. action_mark VOID (automaton_at m) s) m s refl m< s<
action_part BOTTOM m s m< s< = row_lem ACTIONS 4 40 (λ m s. action_mark BOTTOM (automaton_at m) s) m s refl m< s<
action_part TOP m s m< s< = row_lem ACTIONS 4 80 (λ m s. action_mark TOP (automaton_at m) s) m s refl m< s<
action_part GAP m s m< s< = row_lem ACTIONS 4 120 (λ m s. action_mark GAP (automaton_at m) s) m s refl m< s<
action_part ONCE m s m< s< = row_lem ACTIONS 4 160 (λ m s. action_mark ONCE (automaton_at m) s) m s refl m< s<
action_part TWICE m s m< s< = row_lem ACTIONS 4 200 (λ m s. action_mark TWICE (automaton_at m) s) m s refl m< s<

pub action_entry : (k : Kind) (a : Automaton) (s : ℕ) → s < 9 → get_or ACTIONS (kind_rank k * 40 + automaton_number a * 10 + s) 0 ≡ 48 + action_mark k a s
action_entry k a s s< = rw (at_number a) at (action_part k (automaton_number a) s (automaton_small a) s<)
  where
    at_number : (a : Automaton) → automaton_at (automaton_number a) ≡ a
    at_number Lawful = refl
    at_number TraversalRight = refl
    at_number MidpointOrLargest = refl
    at_number TraversalLeft = refl

-- PASSAGES has three, the places
pub passage_entry : (p : Passage) (m s : ℕ) → m < 3 → s < 9 → get_or PASSAGES (passage_rank p * 30 + m * 10 + s) 0 ≡ 48 + passage_mark p m s
unfolding passage_mark
passage_entry P00 m s m< s< = row_lem PASSAGES 3 0 (passage_mark P00) m s refl m< s<
passage_entry P02 m s m< s< = row_lem PASSAGES 3 30 (passage_mark P02) m s refl m< s<
passage_entry P11 m s m< s< = row_lem PASSAGES 3 60 (passage_mark P11) m s refl m< s<
passage_entry P20 m s m< s< = row_lem PASSAGES 3 90 (passage_mark P20) m s refl m< s<
passage_entry P22 m s m< s< = row_lem PASSAGES 3 120 (passage_mark P22) m s refl m< s<

pub place_small : (place : Place) → place_number place < 3
place_small Left = omega arith
place_small At = omega arith
place_small Right = omega arith

-- a mark is '-' only if it says so
marked : (n : ℕ) (b : Bool) → eqb (48 + n) 45 ≡ false → not (eqb (digit_if b n) 45) ≡ b
marked n true e = rw e refl
marked n false e = refl

-- the marks of a policy's row that are '-' are those of what the policy lacks
pub kind_mark : (policy : Policy) (end : End) (k : Kind) → not (eqb (policy_mark policy end (kind_rank k)) 45) ≡ action_named FrontSide policy (sample_action k)
unfolding policy_row passages_in_order
kind_mark policy end VOID = marked 0 (action_named FrontSide policy (sample_action VOID)) refl
kind_mark policy end BOTTOM = marked 1 (action_named FrontSide policy (sample_action BOTTOM)) refl
kind_mark policy end TOP = marked 2 (action_named FrontSide policy (sample_action TOP)) refl
kind_mark policy end GAP = marked 3 (action_named FrontSide policy (sample_action GAP)) refl
kind_mark policy end ONCE = marked 4 (action_named FrontSide policy (sample_action ONCE)) refl
kind_mark policy end TWICE = marked 5 (action_named FrontSide policy (sample_action TWICE)) refl

pub passage_mark_named : (policy : Policy) (end : End) (p : Passage) → not (eqb (policy_mark policy end (7 + passage_rank p)) 45) ≡ passage_named FrontSide policy p
unfolding policy_row passages_in_order
passage_mark_named policy end P00 = marked 0 (passage_named FrontSide policy P00) refl
passage_mark_named policy end P02 = marked 1 (passage_named FrontSide policy P02) refl
passage_mark_named policy end P11 = marked 2 (passage_named FrontSide policy P11) refl
passage_mark_named policy end P20 = marked 3 (passage_named FrontSide policy P20) refl
passage_mark_named policy end P22 = marked 4 (passage_named FrontSide policy P22) refl

-- VOID alone enters no aisle
pub void_kind : (k : Kind) → sameb KindType.the_type k VOID ≡ is_void (sample_action k)
void_kind VOID = refl
void_kind BOTTOM = refl
void_kind TOP = refl
void_kind GAP = refl
void_kind ONCE = refl
void_kind TWICE = refl

-- a mark of an automaton, decided by the test for aisles between, is the next state: where the test does not matter,
settled : (x : State) (b : Bool) → decided (cond (eqb (state_code x) (state_code x)) (state_code x) 9) b ≡ state_code x
unfolding decided
settled x b = rw (eq-eqb (state_code x) (state_code x) refl, lt-ltb (state_code x) 9 (omega (arith, state_small x))) refl

-- and where it decides between odd and dead
decided_row : (n f k j s : State) (b : Bool) (x : State)
    → decided (cond (eqb (state_code (row n f k odd j s x)) (state_code (row n f k dead j s x))) (state_code (row n f k odd j s x)) 9) b
    ≡ state_code (row n f k (cond b odd dead) j s x)
unfolding decided
decided_row n f k j s b nothing = settled n b
decided_row n f k j s b closed = refl
decided_row n f k j s b at_front = settled f b
decided_row n f k j s b at_back = settled k b
decided_row n f k j s true odd = refl
decided_row n f k j s false odd = refl
decided_row n f k j s b joined = settled j b
decided_row n f k j s b split = settled s b
decided_row n f k j s b ending = refl
decided_row n f k j s b dead = refl

pub decided_mark : (a : Automaton) (b : Bool) (k : Kind) (s : ℕ) → decided (action_mark k a s) b ≡ state_code (automaton_by a b (sample_action k) (state_of s))
unfolding action_mark
decided_mark Lawful b k s = settled (lawful_step (sample_action k) (state_of s)) b
decided_mark TraversalRight b k s = settled (traversal_step Rightmost (sample_action k) (state_of s)) b
decided_mark MidpointOrLargest b VOID s = settled (state_of s) b
decided_mark MidpointOrLargest b BOTTOM s = decided_row ending ending dead dead dead b (state_of s)
decided_mark MidpointOrLargest b TOP s = decided_row dead dead dead dead dead b (state_of s)
decided_mark MidpointOrLargest b GAP s = decided_row dead dead dead dead dead b (state_of s)
decided_mark MidpointOrLargest b ONCE s = settled (midpoint_by b Once (state_of s)) b
decided_mark MidpointOrLargest b TWICE s = settled dead b
decided_mark TraversalLeft b k s = settled (traversal_step Leftmost (sample_action k) (state_of s)) b

-- a policy's automaton has the policy's steps
pub automaton_steps : (policy : Policy) (end : End) (b : Bool) (a : Action) (s : State) → automaton_by (automaton_of policy end) b a s ≡ policy_by policy end b a s
automaton_steps Exact end b a s = refl
automaton_steps Return end b a s = refl
automaton_steps Traversal Leftmost b a s = refl
automaton_steps Traversal Rightmost b a s = refl
automaton_steps Midpoint end b a s = refl
automaton_steps Composite end b a s = refl
automaton_steps Largest end b a s = refl

-- the mark of the automaton, and what its digits say
pub automaton_mark : (policy : Policy) (end : End) → policy_mark policy end 13 ≡ 48 + automaton_number (automaton_of policy end)
unfolding policy_row passages_in_order
automaton_mark policy end = refl

pub automaton_digit : (a : Automaton) (d : ℕ) → 48 + automaton_number a ≡ d → a ≡ automaton_at (d - 48)
automaton_digit Lawful d e = rw (sym e) refl
automaton_digit TraversalRight d e = rw (sym e) refl
automaton_digit MidpointOrLargest d e = rw (sym e) refl
automaton_digit TraversalLeft d e = rw (sym e) refl

pub automaton_last : (a : Automaton) → 3 ≤ automaton_number a → a ≡ TraversalLeft
automaton_last Lawful l = absurd (omega arith)
automaton_last TraversalRight l = absurd (omega arith)
automaton_last MidpointOrLargest l = absurd (omega arith)
automaton_last TraversalLeft l = refl

-- the one automaton that asks the test for aisles between
pub between_automaton : (policy : Policy) (end : End) → sameb AutomatonType.the_type (automaton_of policy end) MidpointOrLargest ≡ asks_between policy
between_automaton Exact end = refl
between_automaton Return end = refl
between_automaton Traversal Leftmost = refl
between_automaton Traversal Rightmost = refl
between_automaton Midpoint end = refl
between_automaton Composite end = refl
between_automaton Largest end = refl

-- the mark of a policy that may enter any open aisle
pub anywhere_mark : (policy : Policy) (end : End) → eqb (policy_mark policy end 15) 43 ≡ may_enter policy false
unfolding policy_row passages_in_order
anywhere_mark Exact end = refl
anywhere_mark Return end = refl
anywhere_mark Traversal end = refl
anywhere_mark Midpoint end = refl
anywhere_mark Composite end = refl
anywhere_mark Largest end = refl

-- the mark of the largest gap
pub gap_mark : (policy : Policy) (end : End) → eqb (policy_mark policy end 17) 103 ≡ asks_gap policy
unfolding policy_row passages_in_order
gap_mark Exact end = refl
gap_mark Return end = refl
gap_mark Traversal end = refl
gap_mark Midpoint end = refl
gap_mark Composite end = refl
gap_mark Largest end = refl
