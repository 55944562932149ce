use Rattle.std.proofs.Common.{◌≡◌, ◌*◌, take, pos, neg_ℤ, ◌≤ℤ◌}
use Rattle.journal.specs.Meaning.{account_added, added_up}
use Rattle.journal.proofs.calls.add_up.Given as goal

abbrev pub invariant-loop-posting : goal.invariant-loop-posting
invariant-loop-posting l =
    (l.sum ≡ added_up (account_added l.account) (take l.posting-index l.postings))
    × (neg_ℤ (pos (200000000000 * l.posting-index)) ≤ℤ l.sum)
    × (l.sum ≤ℤ pos (200000000000 * l.posting-index))
