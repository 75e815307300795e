-- Which links a line is told to have.
use Rattle.std.specs.Prelude.{◌==◌}
use Rattle.lapd_c.proofs.Vocabulary.{◌≡◌, ◌≤◌, ◌<◌, ◌+◌, ℕ, None, refl, sym, ap, subst, ◌∙◌, cond, arith, Service, service_at, tei_at, state_at}
use Rattle.lapd_frame.specs.declared.services.Service.TheVariants.{Call, Packet}
use Rattle.model_card.specs.Card.{Card, state}
use Rattle.lapd_c.specs.LinkPlaces.{plain_link}
use Rattle.lapd_c.specs.Links.{IsFirst, NoneFrom}
use Rattle.lapd_c.specs.LinksTold.{IsTheFirst, LinksAreTold, turn}
use Rattle.lapd_c.specs.declared.plain.links.PlainLink.{PlainLink}
use Rattle.lapd_c.proofs.Halves.{even, odd, evenly, oddly}

-- a link's turn is its place
service_turn : (service : Service) (tei : ℕ) → service_at (turn service tei) ≡ service
service_turn Call tei = ap (λ (n : ℕ). cond (n == 0) Call Packet) ((even tei).0)
service_turn Packet tei = ap (λ (n : ℕ). cond (n == 0) Call Packet) ((odd tei).0)

tei_turn : (service : Service) (tei : ℕ) → tei_at (turn service tei) ≡ tei
tei_turn Call tei = (even tei).1
tei_turn Packet tei = (odd tei).1

place_turn : (place : ℕ) → turn (service_at place) (tei_at place) ≡ place
place_turn place = grind (arith, evenly, oddly)

state_turn : (line tei : ℕ) (m : Card) (service : Service) → state_at line m (turn service tei) ≡ state line service tei m
state_turn line tei m service =
    ap (λ (s : Service). state line s (tei_at (turn service tei)) m) (service_turn service tei) ∙ ap (λ (t : ℕ). state line service t m) (tei_turn service tei)

few_turns : (service : Service) (tei : ℕ) → tei ≤ 126 → turn service tei < 254
few_turns Call tei few = omega (arith, few)
few_turns Packet tei few = omega (arith, few)

none_by : (line from tei : ℕ) (m : Card) (service : Service) → NoneFrom line m from → tei ≤ 126 → from ≤ turn service tei → state line service tei m ≡ None
none_by line from tei m service h few left = sym (state_turn line tei m service) ∙ h.free (turn service tei) left (few_turns service tei few)

first_by : (line from to : ℕ) (m : Card) (found : ℕ × ℕ) → IsFirst line m from found → to ≡ found.0 + 1 → IsTheFirst line m from to (plain_link (found.0) (found.1))
first_by line from to m found h behind =
    let is = place_turn (found.0) in
    record {
      service = service_at (found.0);
      of_service = refl;
      in_state = h.state;
      left = subst (λ (n : ℕ). from ≤ n) (sym is) h.place;
      before = λ service tei after less. sym (state_turn line tei m service) ∙ h.free (turn service tei) after (subst (λ (n : ℕ). turn service tei < n) is less);
      next = behind ∙ ap (λ (n : ℕ). n + 1) (sym is);
      tail = refl;
    }

pub links_are_told_by : LinksAreTold
links_are_told_by = record {
  told = λ line from to m link h. subst (λ (l : PlainLink). IsTheFirst line m from to l) (sym h.told) (first_by line from to m h.found h.first h.behind);
  none = λ line from tei m service h few left. none_by line from tei m service h few left;
}
