-- Entering an offer.
use Rattle.std.specs.Prelude.{ℕ, ◌+◌, ◌*◌, Bool, false, cond, not, ◌&&◌, ◌||◌, List, [], ◌∷◌, ◌++◌, length, Some, None, fold, find, Option, ◌==◌, nat_le, nat_lt}
use Rattle.market.specs.Meaning.{between}
use Rattle.book.specs.declared.posting.Posting.{Posting}
use Rattle.rules.specs.declared.calls.Entry.{Entry}
use Rattle.rules.specs.declared.offers.Exposure.{Exposure}
use Rattle.rules.specs.declared.offers.Offer.{Offer}
use Rattle.rules.specs.declared.offers.Side.{Side}
use Rattle.rules.specs.declared.offers.Side.TheVariants.{Buy, Sell}
use Rattle.rules.specs.declared.refusal.Refusal.{Refusal}
use Rattle.rules.specs.declared.refusal.Refusal.TheVariants.{NoHouse, NoPaper, BadLots, BadQuote, BadLapse, OutOfHours, NotBetter, BoardFull, TapeFull, NoRoom, NoNumber}
use Rattle.rules.specs.State.{Session, State, seconds, showing, live_closes, posting}
use Rattle.rules.specs.Board.{paired, met, better, offer_of, fewer, lesser}
use Rattle.rules.specs.Refusals.{refuse, carried}
use Rattle.rules.specs.Closing.{pair_fault, may_trade, close_at, struck}

-- offers enter, and closes are complained of, from 8:00 to 15:00
abbrev pub out_of_hours : State → Bool
out_of_hours s = nat_lt s.clock 28800 || nat_le 54000 s.clock

-- the offer that an entry makes: its number is one above the last
abbrev pub offered : State → Entry → Offer
offered s e = record { number = s.accepted + 1; house = e.house; side = e.side; paper = e.paper; lots = e.lots; quote = e.quote; lapse = e.lapse }

-- the exposed offer of a side
abbrev pub exposed : Side → Exposure → State → Offer
exposed Buy x s = offer_of x.buy s.offers
exposed Sell x s = offer_of x.sell s.offers

-- the other side
abbrev pub other : Side → Side
other Buy = Sell
other Sell = Buy

-- in an exposed paper: it must rank strictly better than its side's exposed offer
abbrev pub not_better : Session → State → Offer → Option Exposure → Option Refusal
not_better n s o None = None
not_better n s o (Some x) = refuse (not (better o.side (n.market.rank o.quote) (n.market.rank (exposed o.side x s).quote))) NotBetter

-- and be able to trade with the other exposed offer, at its own quote
abbrev pub unable : Session → State → Offer → Option Exposure → Option Refusal
unable n s o None = None
unable n s o (Some x) = carried (pair_fault n s (paired o (exposed (other o.side) x s)) o.quote)

-- a lapse past the day, or one that the clock has come to
abbrev pub bad_lapse : (clock : ℕ) → Option ℕ → Bool
bad_lapse clock None = false
bad_lapse clock (Some lapse) = nat_lt 86399 lapse || nat_le lapse clock

-- why an entry is refused, tried from the top
abbrev pub enter_rules : Session → (places : ℕ) → State → Entry → List (Option Refusal)
enter_rules n places s e =
    refuse (nat_lt 15 e.house) NoHouse
    ∷ refuse (nat_lt 7 e.paper) NoPaper
    ∷ refuse (not (between 1 1000000 e.lots)) BadLots
    ∷ refuse (not (between n.market.lowest n.market.highest e.quote)) BadQuote
    ∷ refuse (bad_lapse s.clock e.lapse) BadLapse
    ∷ refuse (out_of_hours s) OutOfHours
    ∷ not_better n s (offered s e) (s.papers e.paper)
    ∷ unable n s (offered s e) (s.papers e.paper)
    ∷ refuse (nat_le 64 (length s.offers)) BoardFull
    ∷ refuse (nat_le 256 (length s.closes + length s.offers)) TapeFull
    ∷ refuse (nat_lt places (live_closes s + 2 * length s.offers + 2)) NoRoom
    ∷ refuse (nat_le 1000000 s.accepted) NoNumber
    ∷ []

-- an entering offer on its way through the standing offers: the lots that it has left, and the postings of its closes
pub record Way : Type 0 where
  pub state : State
  pub offer : Offer
  pub postings : List Posting

-- it closes with a standing offer, for the lesser of both lots at the standing quote
abbrev pub closed_with : Session → Way → Offer → Way
closed_with n w standing =
    let p = paired w.offer standing in
    record {
      state = struck n w.state p standing.quote;
      offer = fewer (lesser p) w.offer;
      postings = w.postings ++ (posting (close_at n w.state p standing.quote) ∷ []);
    }

-- if it has lots left and they may trade; it passes over the others
abbrev pub closes_with : Session → Way → Offer → Bool
closes_with n w standing = nat_lt 0 w.offer.lots && may_trade n w.state (paired w.offer standing) standing.quote

-- it meets one of them
abbrev pub meet : Session → Way → Offer → Way
meet n w standing = cond (closes_with n w standing) (closed_with n w standing) w

-- it goes once through those that it crosses
abbrev pub through : Session → State → Offer → Way
through n s o = fold (meet n) (record { state = s; offer = o; postings = [] }) (met n.market o s.offers)

-- an offer joins the standing ones; one without lots does not
abbrev pub stand : Offer → State → State
stand o s = record s { offers = s.offers ++ cond (nat_lt 0 o.lots) (o ∷ []) []; accepted = s.accepted + 1 }

-- the first of the offers met that it may trade with
abbrev pub first_able : Session → State → Offer → List Offer → Option Offer
first_able n s o offers = find (λ standing. may_trade n s (paired o standing) standing.quote) offers

-- an exposure begins with it: the pair, the standing quote for price, and the end
abbrev pub begun : Session → State → Offer → Option Offer → State
begun n s o None = s
begun n s o (Some standing) =
    let p = paired o standing in
    showing o.paper (Some (record { buy = p.buy.number; sell = p.sell.number; price = standing.quote; end = s.clock + seconds n.settings.exposure })) s

-- it takes its side's place in the exposed pair, and its quote becomes the price; the end stays
abbrev pub replaced : Side → Offer → Exposure → Exposure
replaced Buy o x = record x { buy = o.number; price = o.quote }
replaced Sell o x = record x { sell = o.number; price = o.quote }

-- what the paper shows after the entry
abbrev pub shown : Session → State → Offer → Option Exposure → State
shown n s o None = begun n s o (first_able n s o (met n.market o s.offers))
shown n s o (Some x) = showing o.paper (Some (replaced o.side o x)) s

-- an accepted entry: with no exposure it closes at once what it can; else it stands, and what is shown may change
abbrev pub entered : Session → State → Entry → Way
entered n s e =
    cond (seconds n.settings.exposure == 0)
    (let w = through n s (offered s e) in record w { state = stand w.offer w.state })
    (record { state = stand (offered s e) (shown n s (offered s e) (s.papers e.paper)); offer = offered s e; postings = [] })
