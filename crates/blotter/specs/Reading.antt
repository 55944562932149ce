-- What a line of the input tells.
use Rattle.std.specs.Prelude.{◌≡◌, ℕ, Bool, true, false, cond, List, Some, None, Ok, Err, codes, Option, Result, ◌==◌, nat_lt, slice_index}
use Rattle.std.specs.Option.{ok_or}
use Rattle.std.specs.Str.{bytes_eq}
use Rattle.words.specs.Words.{word, next_word, after, number}
use Rattle.trades.specs.Trades.{kind, flaw, told, checked}
use Rattle.trades.specs.declared.trade.Figures.{Figures}
use Rattle.trades.specs.declared.trade.Flaw as trades
use Rattle.trades.specs.declared.trade.Kind.{Kind}
use Rattle.trades.specs.declared.trade.Trade as whole
use Rattle.blotter.specs.declared.entry.Entry.{Entry}
use Rattle.blotter.specs.declared.entry.Entry.TheVariants.{Trade, Limit, Block}
use Rattle.blotter.specs.declared.entry.Field.{Field}
use Rattle.blotter.specs.declared.entry.Field.TheVariants.{Buyer, Seller, Paper, Lots, Quote, Days, Granter, Counterparty, Pesos, House, Other, Switch}
use Rattle.blotter.specs.declared.entry.Flaw.{Flaw}
use Rattle.blotter.specs.declared.entry.Flaw.TheVariants as flaws

infixl 10 ◌>>=◌
-- the first flaw, or what follows
abbrev pub ◌>>=◌ : {X Y : Type 0} → Result X Flaw → (X → Result Y Flaw) → Result Y Flaw
Ok x >>= f = f x
Err e >>= f = Err e

-- r is what the text's first word tells, and that word is read
pub record Reads {X : Type 0} (tells : List ℕ → Result X Flaw) (text : List ℕ) (r : Result X Flaw) (rest : List ℕ) : Type 0 where
  pub told : r ≡ tells text
  pub behind : rest ≡ after text

-- a word that must be there and be a number
abbrev pub figure : Field → List ℕ → Result ℕ Flaw
figure field t = do
  given ← ok_or (next_word t) (flaws.Missing field)
  ok_or (number given) (flaws.NoNumber field)

-- and the number of a house
abbrev pub house : Field → List ℕ → Result ℕ Flaw
house field t = do
  n ← figure field t
  cond (nat_lt 15 n) (Err (flaws.NoHouse field)) (Ok n)

abbrev pub switch : List ℕ → Result Bool Flaw
switch t = do
  given ← ok_or (next_word t) (flaws.Missing Switch)
  cond (bytes_eq given (codes "on")) (Ok true) (cond (bytes_eq given (codes "off")) (Ok false) (Err flaws.NoSwitch))

-- a line ends where no word follows but a comment, which begins with #
abbrev pub ends : Option (List ℕ) → Bool
ends None = true
ends (Some w) = slice_index w 0 == 35

abbrev pub ended : {X : Type 0} → List ℕ → X → Result X Flaw
ended t x = cond (ends (next_word t)) (Ok x) (Err flaws.Surplus)

abbrev pub in_range : Result (whole.Trade) (trades.Flaw) → Result Entry Flaw
in_range (Ok t) = Ok (Trade t)
in_range (Err e) = Err (flaws.Trade e)

-- BUYER SELLER PAPER LOTS QUOTE DAYS, after the market
abbrev pub figures : Kind → List ℕ → Result Figures Flaw
figures k t = do
  let t2 = after t
  let t3 = after t2
  let t4 = after t3
  let t5 = after t4
  let t6 = after t5
  buyer ← figure Buyer t
  seller ← figure Seller t2
  paper ← figure Paper t3
  lots ← figure Lots t4
  quote ← figure Quote t5
  days ← figure Days t6
  ended (after t6) (record { kind = k; buyer = buyer; seller = seller; paper = paper; lots = lots; quote = quote; days = days })

abbrev pub trade : Option Kind → List ℕ → Result Entry Flaw
trade k t = do
  market ← ok_or k flaws.Unknown
  f ← figures market t
  in_range (checked (flaw f) (told f))

-- GRANTER COUNTERPARTY PESOS, after `limit`
abbrev pub limit : List ℕ → Result Entry Flaw
limit t = do
  let t2 = after t
  let t3 = after t2
  granter ← house Granter t
  counterparty ← house Counterparty t2
  pesos ← figure Pesos t3
  ended (after t3) (Limit granter counterparty pesos)

-- HOUSE OTHER on|off, after `block`
abbrev pub block : List ℕ → Result Entry Flaw
block t = do
  let t2 = after t
  let t3 = after t2
  h ← house House t
  other ← house Other t2
  on ← switch t3
  ended (after t3) (Block h other on)

-- what a first word and the text after it tell
abbrev pub entry : List ℕ → List ℕ → Result Entry Flaw
entry w t =
    cond (bytes_eq w (codes "limit")) (limit t)
    (cond (bytes_eq w (codes "block")) (block t)
    (trade (kind w) t))

-- a line; a blank one and a comment tell nothing
abbrev pub read : List ℕ → Result (Option Entry) Flaw
read line = cond (ends (next_word line)) (Ok None) (do
  e ← entry (word line) (after line)
  Ok (Some e))
