-- The closing file.
use Rattle.std.specs.Prelude.{ℕ, zero, suc, ◌+◌, ◌/◌, ◌%◌, cond, List, [], ◌∷◌, ◌++◌, length, drop, Ok, Err, Result, nat_lt}
use Rattle.std.specs.List.{flat_map, enumerate_from}
use Rattle.rules.specs.declared.closes.Close.{Close}
use Rattle.rules.specs.declared.closes.Stage.{Stage}
use Rattle.rules.specs.declared.closes.Stage.TheVariants.{Live, UnderVote, Annulled, Settled}
use Rattle.rules.specs.declared.refusal.Refusal.{Refusal}
use Rattle.rules.specs.declared.refusal.Refusal.TheVariants.{PageShort}

-- at most so many groups of seven bits, the lowest first; a byte has 128 added when another follows
abbrev pub groups : (most n : ℕ) → List ℕ
groups zero n = []
groups (suc most) n = cond (nat_lt n 128) (n ∷ []) ((n % 128 + 128) ∷ groups most (n / 128))

-- a number in the fewest groups: ten are enough for 64 bits
abbrev pub number : ℕ → List ℕ
number n = groups 10 n

-- 0 live, 1 under vote, 2 annulled, 3 settled
abbrev pub stage_number : Stage → ℕ
stage_number (Live heard) = 0
stage_number (UnderVote hearing) = 1
stage_number (Annulled buyer seller) = 2
stage_number Settled = 3

-- number, buyer, seller, paper, lots, price, value, stage
abbrev pub entry : (n : ℕ) → Close → List ℕ
entry n c = flat_map number (n ∷ c.buyer ∷ c.seller ∷ c.paper ∷ c.lots ∷ c.price ∷ c.value ∷ stage_number c.stage ∷ [])

-- the count of closes, then each close, numbered from 1
abbrev pub file : List Close → List ℕ
file closes = number (length closes) ++ flat_map (λ e. entry e.0 e.1) (enumerate_from 1 closes)

-- the answer, and the page afterwards: bytes past the file stay, and a page that is too short is left alone
abbrev pub filed : List Close → (page : List ℕ) → Result ℕ Refusal × List ℕ
filed closes page =
    cond (nat_lt (length page) (length (file closes))) (Err PageShort, page) (Ok (length (file closes)), file closes ++ drop (length (file closes)) page)
