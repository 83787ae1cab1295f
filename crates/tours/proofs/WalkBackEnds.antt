-- TRAVERSAL's table beside the table of EXACT, by the end at which it walks an aisle back: how the states of the two runs of a plan
-- belong together.
use Prim.Native.Nat.{ℕ, ◌+◌}
use native.Mathlib.Omega.{arith}
use mathlib.Core.Path.{◌≡◌, refl, subst}
use mathlib.Core.Logic.{◌⊎◌, inl, inr}
use lib.Dec.{leb, eqb}
use Rattle.rules.specs.declared.Action.TheVariants.{Bottom, Once}
use Rattle.rules.specs.declared.Passage.{Passage}
use Rattle.rules.specs.declared.Passage.TheVariants.{P00, P02, P11, P20, P22}
use Rattle.rules.specs.declared.End.{End}
use Rattle.rules.specs.declared.End.TheVariants.{Leftmost, Rightmost}
use Rattle.rules.specs.Machine.{State, nothing, closed, at_front, at_back, odd, joined, split, ending, dead, lawful_step, traversal_once, traversal_step, cross_step}
use Rattle.tours.proofs.Basics.{false_not_true, either_outcome}
use Rattle.tours.proofs.Parity.{Live, oddness}
use Rattle.tours.proofs.Simulation.{Plain, Tracks, TracksBehind, Ends, Past, tracks_void, tracks_cross}

-- at the left end: the policy's run is in the same state as EXACT's, but `ending` stands for `joined` and may stand for `at_front`;
-- x is one of those that BOTTOM, ONCE and the passages 00, 02 and 11 lead to
abbrev TracksLeft : State → State → Type 0
TracksLeft o nothing = o ≡ nothing
TracksLeft o closed = o ≡ closed
TracksLeft o at_front = (o ≡ at_front) ⊎ (o ≡ ending)
TracksLeft o at_back = ⊥
TracksLeft o odd = o ≡ odd
TracksLeft o joined = o ≡ ending
TracksLeft o split = ⊥
TracksLeft o ending = ⊥
TracksLeft o dead = Unit {0}

-- two steps keep this if they do state by state; EXACT's from `at_front` beside the policy's from both that may stand for it
left_steps : (own exact : State → State)
    → TracksLeft (own nothing) (exact nothing) → TracksLeft (own closed) (exact closed) → TracksLeft (own at_front) (exact at_front)
    → TracksLeft (own ending) (exact at_front) → TracksLeft (own odd) (exact odd) → TracksLeft (own ending) (exact joined) → exact dead ≡ dead
    → (o x : State) → TracksLeft o x → TracksLeft (own o) (exact x)
left_steps own exact n c f e t j d o nothing s = rw s n
left_steps own exact n c f e t j d o closed s = rw s c
left_steps own exact n c f e t j d o at_front (inl s) = rw s f
left_steps own exact n c f e t j d o at_front (inr s) = rw s e
left_steps own exact n c f e t j d o at_back s = absurd s
left_steps own exact n c f e t j d o odd s = rw s t
left_steps own exact n c f e t j d o joined s = rw s j
left_steps own exact n c f e t j d o split s = absurd s
left_steps own exact n c f e t j d o ending s = absurd s
left_steps own exact n c f e t j d o dead s = rw d tt

-- the passages keep it
left_cross : (d j : ℕ) (p : Passage) → Plain p → (o x : State) → TracksLeft o x → TracksLeft (cross_step d j p o) (cross_step d j p x)
left_cross d j P00 n =
    let reached = either_outcome (λ (s : State). TracksLeft s s) (leb d j) closed dead refl tt in
    left_steps (cross_step d j P00) (cross_step d j P00) (either_outcome (λ (s : State). TracksLeft s s) (eqb j d) dead nothing tt refl) refl reached reached tt reached refl
left_cross d j P02 n = left_steps (cross_step d j P02) (cross_step d j P02) (inl refl) tt (inl refl) (inr refl) tt (inr refl) refl
left_cross d j P11 n = left_steps (cross_step d j P11) (cross_step d j P11) tt tt tt tt refl tt refl
left_cross d j P20 n = λ o x s. absurd (false_not_true n)
left_cross d j P22 n = λ o x s. absurd (false_not_true n)

-- ONCE keeps it
left_once : (o x : State) → TracksLeft o x → TracksLeft (traversal_step Leftmost Once o) (lawful_step Once x)
left_once = left_steps (traversal_step Leftmost Once) (lawful_step Once) refl tt refl refl refl refl refl

-- BOTTOM keeps the two runs together at the left end where they are the same and not in the state `odd`, as before the first entered aisle
pub left_bottom : (k : ℕ) (o x : State) → Tracks o x → (Live x → oddness x ≡ 0) → TracksLeft (traversal_step Leftmost (Bottom k) o) (lawful_step (Bottom k) x)
left_bottom k o nothing e even = rw e (inr refl)
left_bottom k o closed e even = tt
left_bottom k o at_front e even = rw e (inr refl)
left_bottom k o at_back e even = absurd e
left_bottom k o odd e even = absurd (let h = even tt in omega arith)
left_bottom k o joined e even = absurd e
left_bottom k o split e even = absurd e
left_bottom k o ending e even = absurd e
left_bottom k o dead e even = tt

-- at the right end ONCE keeps the two runs the same
tracks_once : (o x : State) → Tracks o x → TracksBehind (traversal_step Rightmost Once o) (lawful_step Once x)
tracks_once o nothing e = rw e
tracks_once o closed e = tt
tracks_once o at_front e = rw e
tracks_once o at_back e = absurd e
tracks_once o odd e = rw e
tracks_once o joined e = absurd e
tracks_once o split e = absurd e
tracks_once o ending e = absurd e
tracks_once o dead e = tt

-- and at BOTTOM, whose row is the same at both ends, the policy's run begins to end
pub tracks_bottom : (end : End) (k : ℕ) (o x : State) → Tracks o x → Ends (traversal_step end (Bottom k) o) (lawful_step (Bottom k) x)
tracks_bottom end k o nothing e = rw e
tracks_bottom end k o closed e = tt
tracks_bottom end k o at_front e = rw e
tracks_bottom end k o at_back e = absurd e
tracks_bottom end k o odd e = tt
tracks_bottom end k o joined e = absurd e
tracks_bottom end k o split e = absurd e
tracks_bottom end k o ending e = absurd e
tracks_bottom end k o dead e = tt

-- how the two runs go together before an aisle, at either end
abbrev pub Alike : End → State → State → Type 0
Alike Leftmost o x = TracksLeft o x
Alike Rightmost o x = Tracks o x

-- and behind its action
abbrev pub AlikeBehind : End → State → State → Type 0
AlikeBehind Leftmost o x = TracksLeft o x
AlikeBehind Rightmost o x = TracksBehind o x

-- they begin alike
pub alike_begin : (end : End) → Alike end nothing nothing
alike_begin Leftmost = refl
alike_begin Rightmost = refl

-- and close off alike
pub alike_closed : (end : End) (o x : State) → x ≡ closed → Alike end o x → o ≡ closed
alike_closed Leftmost o x c s = subst (TracksLeft o) c s
alike_closed Rightmost o x c s = subst (Tracks o) c s

-- VOID keeps them alike
pub alike_void : (end : End) (o x : State) → Alike end o x → AlikeBehind end o x
alike_void Leftmost o x s = s
alike_void Rightmost o x s = tracks_void o x s

-- ONCE keeps them alike
pub alike_once : (end : End) (o x : State) → Alike end o x → AlikeBehind end (traversal_step end Once o) (lawful_step Once x)
alike_once Leftmost o x s = left_once o x s
alike_once Rightmost o x s = tracks_once o x s

-- and so do the passages
pub alike_cross : (end : End) (d j : ℕ) (p : Passage) → Plain p → (o x : State) → AlikeBehind end o x → Alike end (cross_step d j p o) (cross_step d j p x)
alike_cross Leftmost d j p n o x s = left_cross d j p n o x s
alike_cross Rightmost d j p n o x s = tracks_cross d j p n o x s

-- what ONCE says of the aisle walked back: at the left end none can follow, at the right end none has gone before
abbrev pub AfterOnce : End → State → Type 0
AfterOnce Leftmost o = Past Leftmost (traversal_once Leftmost o)
AfterOnce Rightmost o = Past Rightmost o → ⊥

-- ONCE turns the parity, and says this
pub once_turns : (end : End) (o : State) → Live (traversal_once end o) → (oddness o + oddness (traversal_once end o) ≡ 1) × AfterOnce end o
once_turns Leftmost nothing l = (refl, tt)
once_turns Leftmost closed l = absurd l
once_turns Leftmost at_front l = (refl, tt)
once_turns Leftmost at_back l = absurd l
once_turns Leftmost odd l = (refl, tt)
once_turns Leftmost joined l = absurd l
once_turns Leftmost split l = absurd l
once_turns Leftmost ending l = (refl, tt)
once_turns Leftmost dead l = absurd l
once_turns Rightmost nothing l = (refl, λ past. past)
once_turns Rightmost closed l = absurd l
once_turns Rightmost at_front l = (refl, λ past. past)
once_turns Rightmost at_back l = absurd l
once_turns Rightmost odd l = (refl, λ past. past)
once_turns Rightmost joined l = absurd l
once_turns Rightmost split l = absurd l
once_turns Rightmost ending l = absurd l
once_turns Rightmost dead l = absurd l
