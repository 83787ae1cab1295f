-- The numbers of the machine's states in the tables.
use Rattle.std.specs.Prelude.{ℕ, zero, suc}
use Rattle.rules.specs.Machine.{State, nothing, closed, at_front, at_back, odd, joined, split, ending, dead}

-- the number of a state
abbrev pub state_code : State → ℕ
state_code nothing = 0
state_code closed = 1
state_code at_front = 2
state_code at_back = 3
state_code odd = 4
state_code joined = 5
state_code split = 6
state_code ending = 7
state_code dead = 8

-- the state of a number; 8 and above is dead
abbrev pub state_of : ℕ → State
state_of zero = nothing
state_of (suc zero) = closed
state_of (suc (suc zero)) = at_front
state_of (suc (suc (suc zero))) = at_back
state_of (suc (suc (suc (suc zero)))) = odd
state_of (suc (suc (suc (suc (suc zero))))) = joined
state_of (suc (suc (suc (suc (suc (suc zero)))))) = split
state_of (suc (suc (suc (suc (suc (suc (suc zero))))))) = ending
state_of (suc (suc (suc (suc (suc (suc (suc (suc n)))))))) = dead
