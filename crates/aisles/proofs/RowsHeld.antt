-- What is said of keys, said of rows of lengths and ones, whatever number of aisles is left.
use Prim.Native.Nat.{ℕ, suc, ◌+◌, ◌*◌, ◌≤◌, ◌<◌}
use native.Mathlib.Omega.{arith}
use mathlib.Core.Path.{◌≡◌, refl, sym, ◌∙◌, ap}
use mathlib.Core.List.{List}
use mathlib.Core.Bool.{Bool, true, false, true≢false}
use lib.ListN.{get_or}
use denote.Enum.Bare.{sameb}
use Rattle.rules.specs.contracts.Kind as KindType
use Rattle.rules.specs.declared.Kind.{Kind}
use Rattle.rules.specs.declared.Kind.TheVariants.{Void as VOID, Bottom as BOTTOM, Top as TOP, Gap as GAP, Once as ONCE, Twice as TWICE}
use Rattle.rules.specs.Plans.{kind_rank}
use Rattle.optimum.specs.Least.{sum_up_to}
use Rattle.optimum.specs.Routing.{no_key}
use Rattle.rows.specs.Rows.{next_at, Permuted, NoneTo}
use Rattle.rows.specs.Pairs.{key_at, next_key, SoundRow, KeysRelaxed, SparedTo}
use Rattle.rows.proofs.Keys.{key_top}
use Rattle.rows.proofs.KeyRows.{row_top, dead_key, keys_none, keys_entered, sound_row_entered, keys_spared, sound_row_spared}
use Rattle.machine.specs.Tables.{asks_between, is_tested}
use Rattle.aisles.specs.declared.layers.Aisle.{Aisle}
use Rattle.aisles.specs.declared.layers.Turns.{Turns}
use Rattle.aisles.specs.declared.repeats.Repeats.{Repeats}
use Rattle.aisles.specs.Repeating.{RepeatsTo}
use Rattle.aisles.specs.Turns.{Thinned, BacksHeld, RowsSwept, SweepReady}
use Rattle.aisles.specs.Layers.{step_with, entered_by, RowsStepped, AisleReady, TurnsOf, RowsPassed, RowFilled}
use Rattle.aisles.proofs.Sweeping.{backs_none, backs_one, swept_none, swept_one}
use Rattle.aisles.proofs.Thinning.{swept_thin}
use Rattle.aisles.proofs.PassLaws.{pass_skipped, pass_swept, RowPassed, passed_none, passed_one, passed_tested, least_passed}

module _ (perm perm-spared backs : List ℕ) (t : Turns) (weight : ℕ) where
  -- past the back crossing there is no back turn
  pub held_none : (acc acc-spared : List ℕ) (n : ℕ) → t.top < n → NoneTo acc acc (weight * 8) → BacksHeld acc acc-spared perm perm-spared backs t weight n
  held_none acc acc-spared n past none r small there =
      let at = keys_none r acc acc acc-spared weight none in
      (λ s q l h. (at s q l h).0, backs_none (key_at r perm perm-spared) backs t weight (key_at r acc acc-spared) n past (λ s q l h. (at s q l h).1))

  -- one more back turn, that at height n
  pub held_one : (acc acc' acc-spared acc-spared' : List ℕ) (n : ℕ) → n ≤ t.top → BacksHeld acc acc-spared perm perm-spared backs t weight (n + 1)
      → KeysRelaxed acc acc' acc-spared acc-spared' perm perm-spared backs (n * 256) (get_or t.back n 0) weight → BacksHeld acc' acc-spared' perm perm-spared backs t weight n
  held_one acc acc' acc-spared acc-spared' n high held x r small there =
      let h = held r small there in
      let k = x.keyed r small h.0 there in
      (k.0, backs_one (key_at r perm perm-spared) backs t weight (key_at r acc acc-spared) (key_at r acc' acc-spared') n high h.1 k.1)

module _ (row spared perm perm-spared fronts backs : List ℕ) (t : Turns) (weight : ℕ) where
  -- no pair has its front turn at the back crossing
  pub rows_none : RowsSwept row row spared spared perm perm-spared fronts backs t weight t.top
  rows_none =
      record {
        kept = refl;
        spared_kept = refl;
        rest = λ k l. refl;
        spared_rest = λ k l. refl;
        keyed = λ r small here there. (here, swept_none (key_at r row spared) (key_at r perm perm-spared) fronts backs t weight);
      }

  -- all pairs whose front turn is at height h too
  pub rows_one : (row' row'' spared' spared'' acc acc-spared : List ℕ) (h : ℕ) → h < t.top → ((q : ℕ) → q < weight → get_or fronts (h * 256 + q) 0 < weight)
      → BacksHeld acc acc-spared perm perm-spared backs t weight (get_or t.from h 0) → RowsSwept row row' spared spared' perm perm-spared fronts backs t weight (h + 1)
      → KeysRelaxed row' row'' spared' spared'' acc acc-spared fronts (h * 256) (get_or t.front h 0) weight → RowsSwept row row'' spared spared'' perm perm-spared fronts backs t weight h
  rows_one row' row'' spared' spared'' acc acc-spared h high below held swept x =
      record {
        kept = x.kept ∙ swept.kept;
        spared_kept = x.spared_kept ∙ swept.spared_kept;
        rest = λ k l. x.rest k l ∙ swept.rest k l;
        spared_rest = λ k l. x.spared_rest k l ∙ swept.spared_rest k l;
        keyed = λ r small here there. (
            let b = held r small there in
            let s = swept.keyed r small here there in
            let k = x.keyed r small s.0 b.0 in (
              k.0,
              swept_one (key_at r row spared) (key_at r perm perm-spared) fronts backs t weight (key_at r row' spared') (key_at r row'' spared'') (key_at r acc acc-spared) h high
                  (row_top r row spared) below b.1 s.1 k.1,
            )
            );
      }

-- rows that are swept over the turns that are kept are swept over all turns
pub rows_thin : (row row' spared spared' perm perm-spared fronts backs : List ℕ) (weight : ℕ) (t : Turns) (same : Repeats) (u : Turns) → Thinned t same u
    → SweepReady row spared fronts backs t weight → RepeatsTo fronts weight same.front t.top → RepeatsTo backs weight same.back t.top
    → RowsSwept row row' spared spared' perm perm-spared fronts backs u weight 0 → RowsSwept row row' spared spared' perm perm-spared fronts backs t weight 0
rows_thin row row' spared spared' perm perm-spared fronts backs weight t same u thin ready Front-same back-same swept =
    record {
      kept = swept.kept;
      spared_kept = swept.spared_kept;
      rest = swept.rest;
      spared_rest = swept.spared_rest;
      keyed = λ r small here there. (
          let s = swept.keyed r small here there in (
            s.0,
            swept_thin (key_at r row spared) (key_at r row' spared') (key_at r perm perm-spared) fronts backs weight t same u thin ready.behind.graded ready.front_below
                Front-same back-same (row_top r row spared) s.1,
          )
          );
    }

module _ (old way old-spared way-spared after after-spared steps : List ℕ) (kind : Kind) (weight : ℕ)
    (x : Permuted old way after steps weight 8) (y : Permuted old-spared way-spared after-spared steps weight 8) where
  -- a kind that enters the aisle leaves the ones as they are
  pub stepped_entered : sameb KindType.the_type kind VOID ≡ false → RowsStepped way way-spared after after-spared steps kind weight
  stepped_entered enters =
      record {
        keyed = λ r room there. (
          sound_row_entered old way old-spared way-spared after after-spared steps weight x y r there room,
          λ s q l h. keys_entered old way old-spared way-spared after after-spared steps weight x y r there room s q l h
              ∙ ap (λ n. sum_up_to no_key n (next_key r after after-spared (get_or steps s 0) q)) (sym (one kind enters)),
        );
      }
    where
      one : (k : Kind) → sameb KindType.the_type k VOID ≡ false → entered_by k ≡ 1
      one VOID e = absurd (true≢false e)
      one BOTTOM e = refl
      one TOP e = refl
      one GAP e = refl
      one ONCE e = refl
      one TWICE e = refl

  -- VOID makes a one more
  pub stepped_spared : (spared : List ℕ) → sameb KindType.the_type kind VOID ≡ true → SparedTo way-spared spared (weight * 8)
      → RowsStepped way spared after after-spared steps kind weight
  unfolding sum_up_to
  stepped_spared spared is more =
      record {
        keyed = λ r room there. (
          sound_row_spared old way old-spared way-spared after after-spared steps weight x y r there room spared more,
          λ s q l h. keys_spared old way old-spared way-spared after after-spared steps weight x y r there room spared more s q l h
              ∙ nothing (next_key r after after-spared (get_or steps s 0) q) (key_top r (next_at after (get_or steps s 0) q) (next_at after-spared (get_or steps s 0) q))
              ∙ ap (λ n. sum_up_to no_key n (next_key r after after-spared (get_or steps s 0) q)) (sym (none kind is)),
        );
      }
    where
      none : (k : Kind) → sameb KindType.the_type k VOID ≡ true → entered_by k ≡ 0
      none VOID e = refl
      none BOTTOM e = absurd (true≢false (sym e))
      none TOP e = absurd (true≢false (sym e))
      none GAP e = absurd (true≢false (sym e))
      none ONCE e = absurd (true≢false (sym e))
      none TWICE e = absurd (true≢false (sym e))

      nothing : (v : ℕ) → v ≤ no_key → v ≡ sum_up_to no_key 0 v
      nothing v h = omega arith

module _ (x : Aisle) (row row' spared spared' after after-spared fronts backs steps : List ℕ) (kind : Kind) (between : Bool)
    (steps-are : (s : ℕ) → s < 8 → get_or steps s 0 ≡ step_with x kind between s) where
  -- a kind that leads on from no state is passed over
  pub rows_skipped : ((s : ℕ) → s < 8 → 8 ≤ get_or steps s 0) → RowsPassed x row row spared spared after after-spared fronts backs kind between
  rows_skipped none =
      record {
        kept = refl;
        spared_kept = refl;
        rest = λ k l. refl;
        spared_rest = λ k l. refl;
        keyed = λ r room here there. (
          here,
          pass_skipped x (key_at (suc r) row spared) (next_key r after after-spared) fronts backs steps kind between steps-are (row_top (suc r) row spared)
              (dead_key r after after-spared) none,
        );
      }

  -- the sweep over its turns does what the pass is to do
  pub rows_passed : (ready : AisleReady x fronts backs) → (between ≡ true → is_tested kind ≡ true) → (t : Turns) → TurnsOf x kind between t
      → (way way-spared : List ℕ) → RowsStepped way way-spared after after-spared steps kind x.weight
      → RowsSwept row row' spared spared' way way-spared fronts backs t x.weight 0 → RowsPassed x row row' spared spared' after after-spared fronts backs kind between
  rows_passed ready tested t turns way way-spared stepped swept =
      record {
        kept = swept.kept;
        spared_kept = swept.spared_kept;
        rest = swept.rest;
        spared_rest = swept.spared_rest;
        keyed = λ r room here there. (
            let b = stepped.keyed r room there in
            let s = swept.keyed (suc r) room here b.0 in (
              s.0,
              pass_swept x (key_at (suc r) row spared) (next_key r after after-spared) fronts backs steps kind between steps-are (row_top (suc r) row spared)
                  (dead_key r after after-spared) ready tested t turns (key_at (suc r) way way-spared) b.1 (key_at (suc r) row' spared') s.1,
            )
            );
      }

-- the maps that a lane holds are those that are given
pub maps_given : (x : Aisle) (row row' spared spared' after after-spared : List ℕ) (kind : Kind) (between : Bool)
    → {fronts fronts' backs backs' : List ℕ} → fronts ≡ fronts' → backs ≡ backs'
    → RowsPassed x row row' spared spared' after after-spared fronts backs kind between → RowsPassed x row row' spared spared' after after-spared fronts' backs' kind between
maps_given x row row' spared spared' after after-spared kind between front-is back-is passed = rw (sym front-is, sym back-is) passed

-- two rows after the first n kinds and the first m that are asked the test, with r aisles behind this one, whatever r is
abbrev pub RowsPassedTo : Aisle → List ℕ → List ℕ → List ℕ → List ℕ → List ℕ → List ℕ → ℕ → ℕ → Type 0
RowsPassedTo x row spared after after-spared fronts backs n m =
    (r : ℕ) → r < 16 → SoundRow r after after-spared x.weight
    → SoundRow (suc r) row spared x.weight × RowPassed x (key_at (suc r) row spared) (next_key r after after-spared) fronts backs n m

module _ (x : Aisle) (after after-spared fronts backs : List ℕ) where
  -- at first there is no way
  pub to_none : (row spared : List ℕ) → NoneTo row row (x.weight * 8) → RowsPassedTo x row spared after after-spared fronts backs 0 0
  to_none row spared none r room there =
      let at = keys_none (suc r) row row spared x.weight none in
      (λ s q l h. (at s q l h).0, passed_none x (next_key r after after-spared) fronts backs (key_at (suc r) row spared) (λ s q l h. (at s q l h).1))

  module _ (row row' spared spared' : List ℕ) (n m : ℕ) (to : RowsPassedTo x row spared after after-spared fronts backs n m) where
    -- one more kind
    pub to_one : (kind : Kind) → kind_rank kind ≡ n → RowsPassed x row row' spared spared' after after-spared fronts backs kind false
        → RowsPassedTo x row' spared' after after-spared fronts backs (n + 1) m
    to_one kind here d r room there =
        let p = to r room there in
        let k = d.keyed r room p.0 there in
        (k.0, passed_one x (next_key r after after-spared) fronts backs (key_at (suc r) row spared) (key_at (suc r) row' spared') n m p.1 kind here k.1)

    -- one more kind with the test
    pub to_tested : (kind : Kind) → kind_rank kind ≡ m + 1 → RowsPassed x row row' spared spared' after after-spared fronts backs kind true
        → RowsPassedTo x row' spared' after after-spared fronts backs n (m + 1)
    to_tested kind here d r room there =
        let p = to r room there in
        let k = d.keyed r room p.0 there in
        (k.0, passed_tested x (next_key r after after-spared) fronts backs (key_at (suc r) row spared) (key_at (suc r) row' spared') n m p.1 kind here k.1)

  -- after all of them the rows hold the least
  pub to_all : (row spared : List ℕ) (m : ℕ) → (asks_between x.method.policy ≡ true → 3 ≤ m) → RowsPassedTo x row spared after after-spared fronts backs 6 m
      → RowFilled x row spared after after-spared fronts backs
  to_all row spared m all to r room there s q l h =
      let p = to r room there in
      record { sound = p.0 s q l h; same = least_passed x (next_key r after after-spared) fronts backs (key_at (suc r) row spared) m p.1 all s q l h }
