-- Request #106, aisles with opening hours: which aisles are open by the clock, and the bounds of the hours.
use Rattle.std.specs.Prelude.{ℕ, ◌≤◌, ◌<◌, Bool, true, ◌&&◌, ◌||◌, not, ltb, leb, eqb, length}
use mathlib.Core.List.{List, Memᴰ}
use Rattle.rules.specs.declared.Window.{Window}
use Rattle.rules.specs.Lists.{all_of, any_of}
use Rattle.rules.specs.Store.{within}

-- the hours of a job: the sections M and H do not stand there, or say the minute of the day and the windows
pub data Hours : Type 0 where
  NoHours : Hours
  At : ℕ → List Window → Hours

-- a window of aisle j
abbrev pub of_aisle : ℕ → Window → Bool
of_aisle j w = eqb w.aisle j

-- the minute lies in the window: from ≤ minute < to
abbrev pub in_window : ℕ → Window → Bool
in_window t w = leb w.from t && ltb t w.to

-- an aisle without lines is open; one with lines is open when the minute lies in one of its windows
unfoldable pub open_at : ℕ → List Window → ℕ → Bool
open_at t windows j = not (any_of (of_aisle j) windows) || any_of (λ (w : Window). of_aisle j w && in_window t w) windows

-- whether aisle j is open ("shut" otherwise); without the sections every aisle is
abbrev pub is_open : Hours → ℕ → Bool
is_open NoHours j = true
is_open (At t windows) j = open_at t windows j

-- the bounds of a window in a store of m aisles: aisle 1 to m, from below to, to at most 1440
unfoldable pub window_in_bounds : ℕ → Window → Bool
window_in_bounds m w = within 1 m w.aisle && ltb w.from w.to && leb w.to 1440

-- the bounds of the hours, where they have sections: minute 0 to 1439; windows 0 to 64, each within its bounds
abbrev pub hours_in_bounds : ℕ → Hours → Bool
hours_in_bounds m NoHours = true
hours_in_bounds m (At t windows) = leb t 1439 && leb (length windows) 64 && all_of (window_in_bounds m) windows

-- the same bounds, number by number; that the tests say so is proved (proofs/Admission)
pub record WindowWithin (m : ℕ) (w : Window) : Type 0 where
  pub aisle : (1 ≤ w.aisle) × (w.aisle ≤ m)
  pub some : w.from < w.to
  pub last : w.to ≤ 1440

abbrev pub HoursWithin : ℕ → Hours → Type 0
HoursWithin m NoHours = Unit {0}
HoursWithin m (At t windows) = (t ≤ 1439) × (length windows ≤ 64) × ((w : Window) → Memᴰ w windows → WindowWithin m w)
