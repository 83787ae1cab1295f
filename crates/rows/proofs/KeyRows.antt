-- Rows of lengths and ones by their keys: relaxed, empty, behind a step, and with an aisle more.
use Prim.Native.Nat.{ℕ, suc, ◌+◌, ◌*◌, ◌≤◌, ◌<◌, min}
use native.Mathlib.Omega.{arith}
use mathlib.Core.Path.{◌≡◌, refl, ◌∙◌, ap, ap₂}
use mathlib.Core.List.{List}
use mathlib.Core.Bool.{Bool, true, false, cond}
use lib.Dec.{ltb}
use lib.ListN.{get_or}
use borrow.Author.Tests.{ltb-true, lt-ltb, le-ltb}
use Rattle.optimum.specs.Least.{sum_up_to}
use Rattle.optimum.specs.Routing.{sat, no_key}
use Rattle.rows.specs.Rows.{tab, next_at, Permuted, NoneTo}
use Rattle.rows.specs.Pairs.{one_more, RelaxedPair, SparedTo, key_of, Sound, key_at, next_key, SoundRow, walk, KeysRelaxed}
use Rattle.rows.proofs.Keys.{sound_as, key_lesser, sound_lesser, key_top, key_plus, sound_plus, key_entered, sound_entered, key_spared, sound_spared}

-- no key is above 'none'
pub row_top : (r : ℕ) (row spared : List ℕ) (s q : ℕ) → key_at r row spared s q ≤ no_key
row_top r row spared s q = key_top r (tab row s q) (tab spared s q)

-- a live state's key is that of its place
pub live_key : (r : ℕ) (after after-spared : List ℕ) (s q : ℕ) → s < 8 → next_key r after after-spared s q ≡ key_at r after after-spared s q
unfolding next_at
live_key r after after-spared s q h = rw (lt-ltb s 8 h) refl

-- the dead state's is 'none', whatever stands for its ones
pub dead_key : (r : ℕ) (after after-spared : List ℕ) (t y : ℕ) → 8 ≤ t → next_key r after after-spared t y ≡ no_key
unfolding key_of next_at
dead_key r after after-spared t y h = rw (le-ltb t 8 h) (omega arith)

-- so of both the ones are packed where there is a tour
pub sound_next : (r : ℕ) (row spared : List ℕ) (n : ℕ) → SoundRow r row spared n → (s q : ℕ) → q < n → Sound r (next_at row s q) (next_at spared s q)
unfolding next_at
sound_next r row spared n there s q h = go (ltb s 8) refl
  where
    go : (b : Bool) → ltb s 8 ≡ b → Sound r (cond b (tab row s q) 65535) (cond b (tab spared s q) 65535)
    go true e = there s q (ltb-true s 8 e) h
    go false e = λ m. absurd (omega arith)

-- rows that are relaxed are relaxed by their keys
pub keys_relaxed : (row row' spared spared' perm perm-spared map : List ℕ) (base cost n : ℕ) → ((q : ℕ) → q < n → get_or map (base + q) 0 < n)
    → RelaxedPair row row' spared spared' perm perm-spared map base cost n → KeysRelaxed row row' spared spared' perm perm-spared map base cost n
keys_relaxed row row' spared spared' perm perm-spared map base cost n below x =
    record {
      kept = x.lengths.kept;
      spared_kept = x.ones.kept;
      rest = x.lengths.rest;
      spared_rest = x.ones.rest;
      keyed = λ r small here there. (sound r small here there, record { done = key r small here there });
    }
  where
    -- the demand that the map leads to
    at : ℕ → ℕ
    at q = get_or map (base + q) 0

    -- the way there, and the ones that go with it
    way : ℕ → ℕ → ℕ
    way s q = sat cost (tab perm s (at q))

    theirs : ℕ → ℕ → ℕ
    theirs s q = tab perm-spared s (at q)

    behind : (r : ℕ) → SoundRow r perm perm-spared n → (s q : ℕ) → s < 8 → q < n → Sound r (way s q) (theirs s q)
    behind r there s q l h = sound_plus r cost (tab perm s (at q)) (theirs s q) (there s (at q) l (below q h))

    sound : (r : ℕ) → r ≤ 16 → SoundRow r row spared n → SoundRow r perm perm-spared n → SoundRow r row' spared' n
    sound r small here there s q l h =
        sound_as (x.lengths.done s q l h) (x.ones.done s q l h)
        (sound_lesser r (tab row s q) (tab spared s q) (way s q) (theirs s q) small (here s q l h) (behind r there s q l h))

    key : (r : ℕ) → r ≤ 16 → SoundRow r row spared n → SoundRow r perm perm-spared n → (s q : ℕ) → s < 8 → q < n
        → key_at r row' spared' s q ≡ min (key_at r row spared s q) (walk cost (key_at r perm perm-spared s (at q)))
    key r small here there s q l h =
        ap₂ (key_of r) (x.lengths.done s q l h) (x.ones.done s q l h)
        ∙ key_lesser r (tab row s q) (tab spared s q) (way s q) (theirs s q) small (here s q l h) (behind r there s q l h)
        ∙ ap (min (key_at r row spared s q)) (key_plus r cost (tab perm s (at q)) (theirs s q))

-- a way that costs 'none' changes nothing
pub keys_same : (row spared perm perm-spared map : List ℕ) (base cost n : ℕ) → 65535 ≤ cost → KeysRelaxed row row spared spared perm perm-spared map base cost n
unfolding sum_up_to key_of
keys_same row spared perm perm-spared map base cost n none =
    record {
      kept = refl;
      spared_kept = refl;
      rest = λ k h. refl;
      spared_rest = λ k h. refl;
      keyed = λ r small here there. (here, record { done = λ s q l h. omega arith });
    }

-- a row without a tour has the key 'none' everywhere, whatever stands beside it
pub keys_none : (r : ℕ) (row row' spared : List ℕ) (n : ℕ) → NoneTo row row' (n * 8) → (s q : ℕ) → s < 8 → q < n
    → Sound r (tab row' s q) (tab spared s q) × (key_at r row' spared s q ≡ no_key)
unfolding key_of
keys_none r row row' spared n e s q l h =
    let none : tab row' s q ≡ 65535 = e.0 (q * 8 + s) (omega arith) in
    (λ m. absurd (omega arith), omega arith)

module _ (row row' spared spared' after after-spared steps : List ℕ) (n : ℕ) (x : Permuted row row' after steps n 8)
    (y : Permuted spared spared' after-spared steps n 8) (r : ℕ) (there : SoundRow r after after-spared n) where
  -- rows behind a step have the keys of the states that it leads to
  pub keys_permuted : (s q : ℕ) → s < 8 → q < n → key_at r row' spared' s q ≡ next_key r after after-spared (get_or steps s 0) q
  keys_permuted s q l h = ap₂ (key_of r) (x.done s q l h) (y.done s q l h)

  -- their ones are packed
  pub sound_permuted : SoundRow r row' spared' n
  sound_permuted s q l h = sound_as (x.done s q l h) (y.done s q l h) (sound_next r after after-spared n there (get_or steps s 0) q h)

  module _ (room : r < 16) where
    -- with an aisle more that is entered each key is one more
    pub keys_entered : (s q : ℕ) → s < 8 → q < n → key_at (suc r) row' spared' s q ≡ sum_up_to no_key 1 (next_key r after after-spared (get_or steps s 0) q)
    keys_entered s q l h = key_entered r (tab row' s q) (tab spared' s q) room (sound_permuted s q l h) ∙ ap (sum_up_to no_key 1) (keys_permuted s q l h)

    -- the ones are packed
    pub sound_row_entered : SoundRow (suc r) row' spared' n
    sound_row_entered s q l h = sound_entered r (tab row' s q) (tab spared' s q) (sound_permuted s q l h)

    module _ (spared'' : List ℕ) (more-spared : SparedTo spared' spared'' (n * 8)) where
      -- a place of the row with a one more in each place
      more : (s q : ℕ) → s < 8 → q < n → tab spared'' s q ≡ one_more (tab spared' s q)
      more s q l h = more-spared.done (q * 8 + s) (omega arith)

      -- with an aisle more that is spared the keys are the same
      pub keys_spared : (s q : ℕ) → s < 8 → q < n → key_at (suc r) row' spared'' s q ≡ next_key r after after-spared (get_or steps s 0) q
      keys_spared s q l h =
          ap (key_of (suc r) (tab row' s q)) (more s q l h)
          ∙ key_spared r (tab row' s q) (tab spared' s q) room (sound_permuted s q l h)
          ∙ keys_permuted s q l h

      -- the ones are packed
      pub sound_row_spared : SoundRow (suc r) row' spared'' n
      sound_row_spared s q l h =
          sound_as refl (more s q l h) (sound_spared r (tab row' s q) (tab spared' s q) room (sound_permuted s q l h))
