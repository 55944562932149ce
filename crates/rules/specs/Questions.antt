-- Questions: they alter nothing.
use Rattle.std.specs.Prelude.{ℕ, not, [], ◌∷◌, ℤ, Some, None, Ok, Err, Option, Result, nat_lt}
use Rattle.rules.specs.declared.closes.Close.{Close}
use Rattle.rules.specs.declared.offers.Offer.{Offer}
use Rattle.rules.specs.declared.refusal.Refusal.{Refusal}
use Rattle.rules.specs.declared.refusal.Refusal.TheVariants.{NoHouse, NoPaper, NoOffer, NoClose}
use Rattle.rules.specs.State.{Session, State, credit, balance, cash, recorded, close_of}
use Rattle.rules.specs.Board.{offer_of, stands}
use Rattle.rules.specs.Refusals.{refuse, first}
use Rattle.rules.specs.Steps.{pair_rules}

-- the first rule that a question breaks refuses it
abbrev pub asked : {X : Type 0} → Option Refusal → X → Result X Refusal
asked None x = Ok x
asked (Some refusal) x = Err refusal

-- a line's limit, and how much of it is used
abbrev pub ask_line : Session → State → (granter counterparty : ℕ) → Result (ℕ × ℕ) Refusal
ask_line n s granter counterparty =
    asked (first (pair_rules granter counterparty [])) (s.limit granter counterparty, (credit n s).used granter counterparty)

-- the lots that a house has of a paper
abbrev pub ask_balance : State → (house paper : ℕ) → Result ℤ Refusal
ask_balance s house paper = asked (first (refuse (nat_lt 15 house) NoHouse ∷ refuse (nat_lt 7 paper) NoPaper ∷ [])) (balance s house paper)

-- the pesos that a house has
abbrev pub ask_cash : State → (house : ℕ) → Result ℤ Refusal
ask_cash s house = asked (first (refuse (nat_lt 15 house) NoHouse ∷ [])) (cash s house)

-- a standing offer
abbrev pub ask_offer : State → (offer : ℕ) → Result Offer Refusal
ask_offer s offer = asked (first (refuse (not (stands offer s.offers)) NoOffer ∷ [])) (offer_of offer s.offers)

-- a recorded close
abbrev pub ask_close : State → (close : ℕ) → Result Close Refusal
ask_close s close = asked (first (refuse (not (recorded s close)) NoClose ∷ [])) (close_of s close)
