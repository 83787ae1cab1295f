-- What a list of fixed room holds.
use Rattle.std.specs.Prelude.{List, take}
use Rattle.values.specs.declared.fixed_list.FixedList.{FixedList}

-- its items: the first of its room, as many as it counts
abbrev pub items : {T : Type 0} {N : _} → FixedList T N → List T
items v = take v.count v.room
