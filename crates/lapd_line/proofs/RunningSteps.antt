-- Which timers run.
use Rattle.lapd_line.proofs.Vocabulary.{◌≡◌, ℕ, ◌<◌, List, [], ◌∷◌, ◌++◌, Option, Some, None, IfSome, is_some, refl, sym, ap, ◌∙◌, arith, option_to_list, Owned, Store, Config, Line, Own, Managing, Management, IsSound, LinkLayer, LayerStands, management_of, own_of, link_at, link_count, place_at, service_at, tei_at, terms, cond}
use Rattle.std.proofs.Common.{append-nil}
use Rattle.lapd_frame.specs.declared.timers.Timer.{Timer}
use Rattle.lapd_frame.specs.declared.timers.Timer.TheVariants.{T201, T202}
use Rattle.lapd_frame.specs.declared.services.Service.TheVariants.{Call, Packet}
use Rattle.lapd_line.specs.Running.{own_timers, states_at, timers_of}
use Rattle.model_line.specs.Line.{state_in}
use Rattle.lapd_line.specs.declared.managing.Managing.TheVariants as kind
use Rattle.model_line.specs.Image.{timer_at, timer_numbered}
use Rattle.model_link.specs.Image.{timer_of}
use Rattle.model_link.specs.Link as machine
use Rattle.lapd_line.proofs.LayerSteps.{beside_links, links_part}
use Rattle.lapd_line.proofs.LinkSteps.{of_part}
use Rattle.lapd_line.proofs.Vocabulary.{Link, LinkStands, get_or, terms_of}

-- a TEI on the line is at most 126
pub small_tei : (c : Config) (m : Line) (place : ℕ) → IsSound c m → IfSome (tei_at place m) (λ tei. tei < 127)
small_tei c m place sound = go (tei_at place m) refl
  where
    go : (o : Option ℕ) → tei_at place m ≡ o → IfSome o (λ tei. tei < 127)
    go None is = tt
    go (Some tei) is = omega (arith, sound.management.table.range place tei is)

-- the states of the links of a TEI
pub states_there : (m : Line) (place tei call packet : ℕ) → tei_at place m ≡ Some tei → call ≡ state_in m Call place → packet ≡ state_in m Packet place → Some (call, packet) ≡ states_at place m
states_there m place tei call packet at call_is packet_is =
    (λ i. Some (call_is i, packet_is i))
    ∙ sym (ap (λ (o : Option ℕ). cond {A = Option (ℕ × ℕ)} (is_some o) (Some (state_in m Call place, state_in m Packet place)) None) at)

-- the timer of a link of a TEI
pub timer_there : (e : LinkLayer) (s : Store) (others : List Owned) (m : Line) (number : ℕ) (x : Link) (result : Option Timer) → LayerStands e s others m → number < link_count e.config → (tei : ℕ) → tei_at (place_at number) m ≡ Some tei
    → x ≡ get_or e.links.items number x → ((others : List Owned) (l : machine.Link) → LinkStands x s others l → option_to_list result ≡ timer_of (terms_of x).service (terms_of x).tei l.running)
    → option_to_list result ≡ timer_numbered m number
timer_there e s others m number x result st few tei at there h =
    of_part (omega (arith, few, st.count)) there (λ t l. option_to_list result ≡ timer_of t.service t.tei l.running) h
    e.config (terms e.config (service_at number) tei) (beside_links e m others) m.links (st.terms number tei few at) (links_part e s others m st)
    ∙ sym (ap (λ o. timer_at (service_at number) o (link_at number m).running) at)

-- there is none
pub no_timer : (m : Line) (number : ℕ) → tei_at (place_at number) m ≡ None → [] ≡ timer_numbered m number
no_timer m number none = sym (ap (λ o. timer_at (service_at number) o (link_at number m).running) none)

-- those of the line itself
abbrev t201_of : Management → List Timer
t201_of t = cond (is_some t.check) (T201 ∷ []) []

abbrev t202_of : Own → List Timer
t202_of o = cond (is_some o.procedure) (T202 ∷ []) []

pub timers_are : (e : LinkLayer) (s : Store) (others : List Owned) (m : Line) → LayerStands e s others m → timers_of e.teis ≡ own_timers m
timers_are e s others m st = go e.teis st.management st.own
  where
    go : (x : Managing) → m.management ≡ management_of e.config x → m.own ≡ own_of x → timers_of x ≡ own_timers m
    go (kind.Network x) management own = sym (append-nil (t201_of x)) ∙ (λ i. t201_of (sym management i) ++ t202_of (sym own i))
    go (kind.Terminal x) management own = λ i. t201_of (sym management i) ++ t202_of (sym own i)
