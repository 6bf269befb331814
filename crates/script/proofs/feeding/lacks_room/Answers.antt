-- `script::feeding::lacks_room` meets its contract.
-- Assumes nothing.
use mathlib.Core.Path.{◌≡◌, sym, ap}
use Prim.Native.Nat.{ℕ, ◌-◌}
use native.Mathlib.Omega.{arith}
use lib.Dec.{ltb}
use Rattle.script.proofs.feeding.lacks_room.Goals as goal

pub returns-else-at-len : goal.returns-else-at-len
returns-else-at-len c =
    let a = c.args in
    let z : a.len - a.at ≡ 0 = omega arith in
    sym (ap (λ (n : ℕ). ltb n a.room) z)
