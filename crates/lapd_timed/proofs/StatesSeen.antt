-- The states of the links of a line, as far as its places have been looked at.
use Rattle.std.proofs.Common.{arith, ◌≡◌, ℕ, ◌+◌, ◌*◌, ◌<◌, inl, inr, Bool, true, false, cond, List, get_or, set, length, Some, None, refl, sym, ap, ◌∙◌}
use Rattle.std.proofs.lemmas.Bool.{cases_eq}
use Rattle.std.proofs.lemmas.List.{get_or-set_other, get_or-set_same}
use Rattle.std.specs.Option.{unwrap_or}
use Rattle.std.specs.Prelude.{is_some}
use Rattle.lapd_frame.specs.declared.services.Service.TheVariants.{Call, Packet}
use Rattle.lapd_line.specs.Running.{states_at}
use Rattle.model_link.specs.Link.{state_number}
use Rattle.model_line.specs.Line.{Line, tei_at, link_at}
use Rattle.model_line.proofs.Numbers.{place_at-number}
use Rattle.model_timed.specs.Changes.{standing}
use Rattle.lapd_timed.proofs.Marked.{length-set}

-- what is asked at a place is how its two links stand
abbrev asked : ℕ → Line → ℕ × ℕ
asked place l = unwrap_or {T = ℕ × ℕ} (states_at place l) (0, 0)

first : (b : Bool) (x y : ℕ) → (unwrap_or {T = ℕ × ℕ} (cond b (Some (x, y)) None) (0, 0)).0 ≡ cond {A = ℕ} b x 0
first true x y = refl
first false x y = refl

second : (b : Bool) (x y : ℕ) → (unwrap_or {T = ℕ × ℕ} (cond b (Some (x, y)) None) (0, 0)).1 ≡ cond {A = ℕ} b y 0
second true x y = refl
second false x y = refl

pub call-stands : (place : ℕ) (l : Line) → (asked place l).0 ≡ standing (2 * place) l
call-stands place l =
    first (is_some (tei_at place l)) _ _
    ∙ ap (λ p. cond {A = ℕ} (is_some (tei_at p l)) (state_number (link_at (2 * place) l).state) 0) (sym (place_at-number place Call))

pub packet-stands : (place : ℕ) (l : Line) → (asked place l).1 ≡ standing (2 * place + 1) l
packet-stands place l =
    second (is_some (tei_at place l)) _ _
    ∙ ap (λ p. cond {A = ℕ} (is_some (tei_at p l)) (state_number (link_at (2 * place + 1) l).state) 0) (sym (place_at-number place Packet))

-- one place more
pub place-seen : (place call packet : ℕ) (states : List ℕ) (l : Line) → length states ≡ 16 → place < 8 → call ≡ (asked place l).0 → packet ≡ (asked place l).1
    → ((number : ℕ) → number < 2 * place → get_or states number 0 ≡ standing number l)
    → (number : ℕ) → number < 2 * (place + 1) → get_or (set (set states (2 * place) call) (2 * place + 1) packet) number 0 ≡ standing number l
place-seen place call packet states l count few call_is packet_is below number less = elim (cases_eq number (2 * place + 1)) [
  | inl odd ↦ ap (λ n. get_or (set (set states (2 * place) call) (2 * place + 1) packet) n 0) odd
      ∙ get_or-set_same (set states (2 * place) call) (2 * place + 1) packet 0 (omega (arith, few, count, length-set states (2 * place) call))
      ∙ packet_is ∙ packet-stands place l ∙ ap (λ n. standing n l) (sym odd)
  | inr uneven ↦ get_or-set_other (set states (2 * place) call) (2 * place + 1) number packet 0 uneven ∙ elim (cases_eq number (2 * place)) [
    | inl even ↦ ap (λ n. get_or (set states (2 * place) call) n 0) even
        ∙ get_or-set_same states (2 * place) call 0 (omega (arith, few, count)) ∙ call_is ∙ call-stands place l ∙ ap (λ n. standing n l) (sym even)
    | inr neither ↦ get_or-set_other states (2 * place) number call 0 neither ∙ below number (omega (arith, less, uneven, neither))
  ]
]
