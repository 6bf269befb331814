-- `digits::lanes::word` meets its contract.
-- Assumes nothing.
use mathlib.Core.Path.{refl, sym, subst}
use mathlib.Core.List.{List}
use Prim.Native.Nat.{ℕ, ◌+◌, ◌*◌, ◌<◌}
use native.Mathlib.Omega.{arith}
use lib.ListN.{get_or}
use Rattle.digits.specs.Lanes.{Lanes, from}
use Rattle.digits.proofs.Laws.Joining.{joined_at, byte_at}
use Rattle.digits.proofs.lanes.word.Goals as goal

-- eight bytes, each behind those before it
eight : (b : List ℕ) (at : ℕ) → ((n : ℕ) → get_or b n 0 < 256)
    → Lanes (from b at) 8 (
    get_or b at 0 + get_or b (at + 1) 0 * 256 + get_or b (at + 2) 0 * 65536 + get_or b (at + 3) 0 * 16777216
    + get_or b (at + 4) 0 * 4294967296 + get_or b (at + 5) 0 * 1099511627776 + get_or b (at + 6) 0 * 281474976710656
    + get_or b (at + 7) 0 * 72057594037927936
    )
eight b at small =
    let one : (k : ℕ) → Lanes (from b k) 1 (get_or b k 0) = λ k. byte_at b k (get_or b k 0) (small k) refl in
    joined_at b at 7
    (joined_at b at 6
    (joined_at b at 5
    (joined_at b at 4
    (joined_at b at 3
    (joined_at b at 2
    (joined_at b at 1 (one at) (one (at + 1)))
    (one (at + 2))) (one (at + 3))) (one (at + 4))) (one (at + 5))) (one (at + 6))) (one (at + 7))

pub returns : goal.returns
returns c =
    subst (Lanes (from c.args.b.now c.args.at) 8) (sym c.from_le_bytes.ensures)
    (eight c.args.b.now c.args.at (λ n. omega (arith, c.type_inv.b n)))
