use Rattle.std.proofs.Common.{◌≡◌, ◌+◌, ◌-◌, ◌*◌, ◌^◌, ◌<◌, true, take}
use Rattle.std.specs.Char.{is_ascii_digit}
use Rattle.std.specs.List.{list_all, fold}
use Rattle.words.proofs.cut.number.Given as goal

abbrev pub invariant-loop-b : goal.invariant-loop-b
invariant-loop-b l =
    (l.n ≡ fold (λ n b. n * 10 + (b - 48)) 0 (take l.b-index l.word))
    × (list_all is_ascii_digit (take l.b-index l.word) ≡ true)
    × (l.n < 10 ^ l.b-index)
