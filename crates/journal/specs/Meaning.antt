-- What a journal means.
use Rattle.std.specs.Prelude.{◌-◌, List, length, ℤ, pos, ◌+ℤ◌, fold}
use Rattle.book.specs.Sheet.{Sheet, lots_added, cash_added}
use Rattle.book.specs.declared.posting.Posting.{Posting}
use Rattle.journal.specs.declared.Journal.{Journal}
use Rattle.journal.specs.declared.Account.{Account}
use Rattle.journal.specs.declared.Account.TheVariants.{Lots, Cash}

-- what a posting adds to an account
abbrev pub account_added : Account → Posting → ℤ
account_added (Lots house paper) = λ x. lots_added x house paper
account_added (Cash house) = λ x. cash_added x house

-- the sum of what each posting adds
abbrev pub added_up : (Posting → ℤ) → List Posting → ℤ
added_up f postings = fold (λ sum x. sum +ℤ f x) (pos 0) postings

-- the postings that a journal holds, in order
abbrev pub stored : Journal → List Posting
stored j = j.postings.items

-- a journal has what its postings add up to, and 256 places in all
abbrev pub journal_sheet : Journal → Sheet
journal_sheet j = record {
  lots = λ house paper. added_up (λ x. lots_added x house paper) (stored j);
  cash = λ house. added_up (λ x. cash_added x house) (stored j);
  places = 256 - length (stored j);
}
