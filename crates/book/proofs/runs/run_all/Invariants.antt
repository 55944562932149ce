use Rattle.std.proofs.Common.{◌≤◌, length, take}
use Rattle.book.specs.Laws.{Run}
use Rattle.book.proofs.runs.run_all.Given as goal

abbrev pub invariant-loop-posting : goal.invariant-loop-posting
invariant-loop-posting g l =
    (l.posting-index ≤ length l.postings)
    × (l.accepted ≤ l.posting-index)
    × Run (g.B.Book.sheet l.initial.book) (take l.posting-index l.postings) l.accepted (g.B.Book.sheet l.book)
