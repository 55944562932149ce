-- What a posting does to the figures of a net sheet.
use Rattle.std.specs.Prelude.{◌≡◌, ℕ, suc, ◌+◌, ◌-◌, ◌*◌, ◌<◌, ◌≤◌, cond, List, length, replicate, ℤ, pos, ◌+ℤ◌, ◌-ℤ◌, ◌==◌, slice_index_or, slice_set}
use Rattle.std.proofs.Common.{arith, suc-mul, length-set, get_or-set_same, get_or-set_other}
use Rattle.std.proofs.lemmas.List.{get_or-replicate, get_or_past, length-replicate}
use Rattle.std.proofs.lemmas.Int.{ints}
use Rattle.std.proofs.lemmas.Bool.{cases_eq}
use Rattle.std.proofs.lemmas.Bool.Decides.{nat_tests}
use Rattle.book.specs.Sheet.{moved}
use Rattle.book.proofs.Bounds.{moved_within}
use Rattle.net_sheet.specs.Kept.{Within}

put : (xs : List ℤ) (i k : ℕ) (v : ℤ) → i < length xs → slice_index_or (slice_set xs i v) k (pos 0) ≡ cond (k == i) v (slice_index_or xs k (pos 0))
put xs i k v h = grind (arith, nat_tests, cases_eq k i, get_or-set_same xs i v (pos 0) h, get_or-set_other xs i k v (pos 0))

-- taken from one figure, then added to another
pub put_both : (xs : List ℤ) (to from n : ℕ) (u v : ℤ) → to < length xs → from < length xs → u ≡ slice_index_or xs from (pos 0) -ℤ pos n → v ≡ slice_index_or (slice_set xs from u) to (pos 0) +ℤ pos n
    → (k : ℕ) → slice_index_or (slice_set (slice_set xs from u) to v) k (pos 0) ≡ slice_index_or xs k (pos 0) +ℤ moved to from n k
put_both xs to from n u v ht hf eu ev k =
    let taken = put xs from k u hf in
    let there = put xs from to u hf in
    let long : to < length (slice_set xs from u) = simp length-set ht in
    let added = put (slice_set xs from u) to k v long in
    grind (arith, ints, nat_tests, taken, there, added)

pub none_there : (n k : ℕ) → slice_index_or (replicate n (pos 0)) k (pos 0) ≡ pos 0
none_there n k = grind (arith, get_or-replicate n k (pos 0) (pos 0), get_or_past (replicate n (pos 0)) k (pos 0), length-replicate n (pos 0))

pub within_none : (w n : ℕ) → Within w (replicate n (pos 0))
within_none w n k = let z = none_there n k in (omega (arith, ints, z), omega (arith, ints, z))

-- a posting takes a figure as much further from zero as the most that it may move
pub within_moved : (most : ℕ) (xs ys : List ℤ) (to from n places left : ℕ) → n ≤ most → left + 1 ≡ places → places ≤ 1000000 → Within ((1000000 - places) * most) xs
    → ((k : ℕ) → slice_index_or ys k (pos 0) ≡ slice_index_or xs k (pos 0) +ℤ moved to from n k) → Within ((1000000 - left) * most) ys
within_moved most xs ys to from n places left small one few w e k =
    let v = moved_within to from n k in
    let more : (1000000 - left) * most ≡ (1000000 - places) * most + most =
    let next : 1000000 - left ≡ suc (1000000 - places) = omega arith in rw (next, suc-mul) in
    (omega (arith, ints, e k, v.0, (w k).0, more), omega (arith, ints, e k, v.1, (w k).1, more))
