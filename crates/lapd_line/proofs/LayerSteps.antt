-- What a call on the links does to the entities of a line.
use Rattle.lapd_line.proofs.Vocabulary.{management_of, places_of, ◌≡◌, ℕ, ◌<◌, ◌≤◌, List, ◌++◌, length, slice_get, Some, refl, sym, ap, subst, ◌∙◌, arith, append_assoc, get_or, None, Owned, Holds, Store, SameLimits, Service, Link, told_with, IsAt, place_of, at-within, place_of-is, Line, link_number, link_count, service_at, place_at, tei_at, terms, at_link, link_in, place_in}
use Rattle.lapd_line.proofs.Vocabulary.{told_of_link, IsSound}
use Rattle.lapd_line.proofs.Vocabulary.{place_at-number, service_at-number, number_within, aim_sound, ranges_of, LinkLayer, BareReport, told_in, unit_pairs, UnitRing, AreFor, Marks, Sets, AreAwake, TellsOf, Bool, LinksStand, HasTerms, links_pairs, terms_in, machine_at, LinkFits, LayerStands, Standing, Serves, always, Config, Managing, is_terminal, is_terminals, own_of, All, zip}
use Rattle.std.specs.Option.{option_map}
use Rattle.model_link.specs.Events as event
use Rattle.model_link.specs.Link as machine
use Rattle.lapd_line.proofs.LinkEvents as links
use Rattle.lapd_line.proofs.AwakeSteps.{awake_set}
use Rattle.lapd_line.proofs.LinkSteps.{Did, IsLooked, part, part_stands, same_many, serves, tells_now}
use Rattle.std.proofs.Common.{Vec, Global}
use Rattle.std.specs.Vec.{with_item}
use Rattle.lapd_line.proofs.Vocabulary.{LinkStands, Places, Terms, of_aim, set}
use Rattle.model_link.specs.Machine.{after}

-- The entities stand again where the links are as they were, and what else differs is said anew.
pub stands_as : {e : LinkLayer} {s : Store} {others : List Owned} {m : Line} → LayerStands e s others m → (teis : Managing) (units : UnitRing) (t : Store) (rest : List Owned) (l : Line)
    → (l.links ≡ m.links) × (l.turn ≡ m.turn) × (l.management.places ≡ m.management.places) × (units.capacity ≡ e.units.capacity)
    → e.config.n201 ≤ t.width → IsSound e.config l → (l.management ≡ management_of e.config teis) × (l.own ≡ own_of teis) × (is_terminals teis ≡ is_terminal e.config) → AreFor units.waiting l.units → Holds t ((links_pairs e.links.items l.links ++ unit_pairs units.waiting l.units) ++ rest)
    → LayerStands (record e { teis = teis; units = units }) t rest l
stands_as {e} st teis units t rest l same wide sound management addressed held = record {
  range = st.range;
  wide = wide;
  sound = sound;
  management = management.0;
  own = management.1;
  kind = management.2;
  count = st.count;
  links = subst (λ ms. All (LinkFits e.config) (zip e.links.items ms)) (sym same.0) st.links;
  terms = λ number tei within at. st.terms number tei within (ap (λ places. get_or places (place_at number) None) (sym same.2) ∙ at);
  addressed = addressed;
  capacity = same.3 ∙ st.capacity;
  turn = same.1 ∙ st.turn;
  has_frame = subst (AreAwake e.has_frame e.links.items) (sym same.0) st.has_frame;
  held = held;
}

-- the links of a line stand beside its units and what others own
abbrev pub beside_links : LinkLayer → Line → List Owned → List Owned
beside_links e m others = unit_pairs e.units.waiting m.units ++ others

pub links_part : (e : LinkLayer) (s : Store) (others : List Owned) (m : Line) → LayerStands e s others m → LinksStand e.config e.links.items s (beside_links e m others) m.links
links_part e s others m st = record {
  wide = st.wide;
  same = st.count ∙ sym st.sound.count;
  fits = st.links;
  held = subst (Holds s) (append_assoc (links_pairs e.links.items m.links) (unit_pairs e.units.waiting m.units) others) st.held;
}

-- the way back: where the links and their machines have changed, and the turn, and nothing else
pub links_turned : (e : LinkLayer) (s t : Store) (others : List Owned) (m : Line) (new : Vec Link Global) (ms : List machine.Link) (has_frame : Marks) (turn turn' : ℕ)
    → LayerStands e s others m → terms_in new.items ≡ terms_in e.links.items → SameLimits s t
    → IsSound e.config (record m { links = ms; turn = turn })
    → LinksStand e.config new.items t (beside_links e m others) ms → AreAwake has_frame new.items ms → turn ≡ turn'
    → LayerStands (record e { links = new; has_frame = has_frame; turn = turn' }) t others (record m { links = ms; turn = turn })
links_turned e s t others m new ms has_frame turn turn' st same limits sound stand are_awake turns = record {
  range = st.range;
  wide = stand.wide;
  sound = sound;
  management = st.management;
  own = st.own;
  kind = st.kind;
  count = same_many new.items e.links.items same ∙ st.count;
  links = stand.fits;
  terms = λ number tei within at. subst (λ l. slice_get l number ≡ Some (terms e.config (service_at number) tei)) (sym same) (st.terms number tei within at);
  addressed = st.addressed;
  capacity = st.capacity;
  turn = turns;
  has_frame = are_awake;
  held = subst (Holds t) (sym (append_assoc (links_pairs new.items ms) (unit_pairs e.units.waiting m.units) others)) stand.held;
}

pub links_back : (e : LinkLayer) (s t : Store) (others : List Owned) (m : Line) (new : Vec Link Global) (ms : List machine.Link) (has_frame : Marks)
    → LayerStands e s others m → terms_in new.items ≡ terms_in e.links.items → SameLimits s t
    → IsSound e.config (record m { links = ms })
    → LinksStand e.config new.items t (beside_links e m others) ms → AreAwake has_frame new.items ms
    → LayerStands (record e { links = new; has_frame = has_frame }) t others (record m { links = ms })
links_back e s t others m new ms has_frame st same limits sound stand are_awake = links_turned e s t others m new ms has_frame m.turn e.turn st same limits sound stand are_awake st.turn

-- the link of a service with the TEI at a place: where it is, and its parameters
pub record Named (e : LinkLayer) (service : Service) (tei place : ℕ) : Type 0 where
  pub within : link_number place service < length e.links.items
  pub few : link_number place service < link_count e.config
  pub has_terms : HasTerms e.links.items (link_number place service) (terms e.config service tei)

pub named : (e : LinkLayer) (s : Store) (others : List Owned) (m : Line) (service : Service) (tei place : ℕ) → LayerStands e s others m → IsAt (places_of e.teis) place tei → Named e service tei place
named e s others m service tei place st at =
    let number = link_number place service in
    let at' : IsAt m.management.places place tei = subst (λ t. IsAt t.places place tei) (sym st.management) at in
    let within : place < e.config.terminals = omega (arith, st.sound.places, at-within m.management.places place tei at') in
    let few = number_within place e.config.terminals service within in
    let there : tei_at (place_at number) m ≡ Some tei = ap (λ p. tei_at p m) (place_at-number place service) ∙ at' in
    record {
      within = omega (arith, st.count, few);
      few = few;
      has_terms = subst (λ x. HasTerms e.links.items number (terms e.config x tei)) (service_at-number place service) (st.terms number tei few there);
    }

-- where a TEI is found, there it is
pub at_found : (places : Places) {tei place : ℕ} → Some place ≡ place_of tei places → IsAt places place tei
at_found places {tei} {place} found = (place_of-is places tei place (sym found)).1

-- at most eight places
pub few_places : (e : LinkLayer) (s : Store) (others : List Owned) (m : Line) → LayerStands e s others m → length (places_of e.teis) ≤ 8
few_places e s others m st = omega (arith, ap (λ t. length t.places) st.management, st.sound.places, (ranges_of e.config st.range).terminals.most)

-- so the number of a link is exact
pub numbered : (e : LinkLayer) (s : Store) (tei place : ℕ) {result number : ℕ} → Standing e s → IsAt (places_of e.teis) place tei → (place ≤ 8 → result ≡ number) → result ≡ number
numbered e s tei place (others, m, st) at h = h (omega (arith, at-within (places_of e.teis) place tei at, few_places e s others m st))

-- for calls on its links
pub links_standing : {e : LinkLayer} {s : Store} → Standing e s → (c : Config) × (others : List Owned) × (ms : List machine.Link) × LinksStand c e.links.items s others ms
links_standing {e} {s} (others, m, st) = (e.config, beside_links e m others, m.links, links_part e s others m st)

pub link_within : {e : LinkLayer} {s : Store} {number : ℕ} → Standing e s → number < link_count e.config → number < length e.links.items
link_within (others, m, st) few = omega (arith, few, st.count)

pub number_there : {e : LinkLayer} {s : Store} (service : Service) {tei place number : ℕ} → Standing e s → IsAt (places_of e.teis) place tei → (place ≤ 8 → number ≡ link_number place service) → number < length e.links.items
number_there {e} {s} service {tei} {place} (others, m, st) at exact =
    subst (λ n. n < length e.links.items) (sym (numbered e s tei place (others, m, st) at exact)) (named e s others m service tei place st at).within

-- so it stands beside what others own
pub link_stands : {e : LinkLayer} {s : Store} (service : Service) {tei place number : ℕ} {x : Link} → Standing e s → IsAt (places_of e.teis) place tei → (place ≤ 8 → number ≡ link_number place service)
    → x ≡ get_or e.links.items number x → (others : List Owned) × (m : machine.Link) × LinkStands x s others m
link_stands service standing at exact is = part_stands (number_there service standing at exact) is (links_standing standing)

-- and it has its mark
pub number_low : {e : LinkLayer} {s : Store} (service : Service) {tei place number : ℕ} → Standing e s → IsAt (places_of e.teis) place tei → (place ≤ 8 → number ≡ link_number place service) → number < 64
number_low {e} {s} service (others, m, st) at exact =
    omega (arith, number_there service (others, m, st) at exact, st.count, (ranges_of e.config st.range).terminals.most)

-- an event of a link
pub at_link_serves : {e : LinkLayer} {s t : Store} {x y : Link} {has_frame : Marks} {service : Service} {tei place number : ℕ} {what : event.Event} {info octets : List ℕ} {answer outcome : BareReport} {looked : Bool}
    → Standing e s → IsAt (places_of e.teis) place tei → (place ≤ 8 → number ≡ link_number place service) → x ≡ get_or e.links.items number x
    → Did what info x s y t answer → IsLooked y looked → Sets number looked e.has_frame has_frame → (answer.cause ≡ None → told_in octets outcome ≡ told_of_link (told_with info answer))
    → Serves (always (at_link service tei place what)) octets e s (record e { links = with_item e.links number y; has_frame = has_frame }) t outcome
at_link_serves {e} {s} {t} {y = y} {has_frame} {service} {tei} {place} {number} {what} {info} {octets} {answer} {outcome} {looked} standing at exact is did looks sets is_told = record {
  config = refl;
  limits = did.limits;
  stands = λ others m st. links_back e s t others m (with_item e.links number y) _ has_frame st served.terms served.limits (sound others m st) (stand others m st) (awake others m st);
  told = λ others m st. is_told served.cause ∙ ap told_of_link (served.told e.config mine (beside_links e m others) m.links (there others m st).has_terms (links_part e s others m st));
}
  where
    mine : Terms
    mine = terms e.config service tei

    same : number ≡ link_number place service
    same = numbered e s tei place standing at exact

    new : List Link
    new = set e.links.items number y

    -- its number is written in full
    exactly : (P : ℕ → Type 0) → P number → P (link_number place service)
    exactly P = subst P same

    served : links.Serves (link_number place service) what info e.links.items s new t answer
    served = exactly (λ n. links.Serves n what info e.links.items s new t answer) (serves (number_there service standing at exact) is did (links_standing standing))

    there : (others : List Owned) (m : Line) → LayerStands e s others m → Named e service tei place
    there others m st = named e s others m service tei place st at

    sound : (others : List Owned) (m : Line) → LayerStands e s others m → IsSound e.config (of_aim e.config (at_link service tei place what) m).line
    sound others m st = aim_sound e.config st.range m (at_link service tei place what) st.sound (subst (λ x. IsAt x.places place tei) (sym st.management) at)

    machines : Line → List machine.Link
    machines m = set m.links (link_number place service) (after mine what (machine_at m.links (link_number place service)))

    stand : (others : List Owned) (m : Line) → LayerStands e s others m → LinksStand e.config new t (beside_links e m others) (machines m)
    stand others m st = served.goes_on e.config mine (beside_links e m others) m.links (there others m st).has_terms (links_part e s others m st)

    awake : (others : List Owned) (m : Line) → LayerStands e s others m → AreAwake has_frame new (machines m)
    awake others m st =
        let has : HasTerms new (link_number place service) mine = subst (λ l. slice_get l (link_number place service) ≡ Some mine) (sym served.terms) (there others m st).has_terms in
        let told = exactly (λ n. TellsOf n new looked) (tells_now e.links.items (number_there service standing at exact) looks) e.config mine t (beside_links e m others) (machines m) has (stand others m st) in
        awake_set e.has_frame has_frame e.links.items new m.links (link_number place service) _ looked mine (exactly (λ n. Sets n looked e.has_frame has_frame) sets) served.terms has told st.has_frame

-- what is asked of a link of the TEI at a place
pub asked_there : {A : Type 0} (of_link : machine.Link → A) {e : LinkLayer} {s : Store} {others : List Owned} {m : Line} (service : Service) (tei : ℕ) {place number : ℕ} {x : Link} {value : A} → LayerStands e s others m → IsAt (places_of e.teis) place tei
    → (place ≤ 8 → number ≡ link_number place service) → x ≡ get_or e.links.items number x → ((others : List Owned) (l : machine.Link) → LinkStands x s others l → value ≡ of_link l)
    → value ≡ of_link (link_in m service place)
asked_there of_link {e} {s} {others} {m} service tei {place} {number} st at named_so there h =
    let taken = part (number_there service (others, m, st) at named_so) there e.config (beside_links e m others) m.links (links_part e s others m st) in
    h taken.rest (machine_at m.links number) taken.stands ∙ ap (λ n. of_link (machine_at m.links n)) (numbered e s tei place (others, m, st) at named_so)

-- what is asked of a link of a TEI on the line
pub asked_of_link : {A : Type 0} (of_link : machine.Link → A) {e : LinkLayer} {s : Store} {others : List Owned} {m : Line} (service : Service) (tei : ℕ) {place number : ℕ} {x : Link} {value : A} → LayerStands e s others m → place_of tei (places_of e.teis) ≡ Some place
    → (place ≤ 8 → number ≡ link_number place service) → x ≡ get_or e.links.items number x → ((others : List Owned) (l : machine.Link) → LinkStands x s others l → value ≡ of_link l)
    → Some value ≡ option_map (λ place. of_link (link_in m service place)) (place_in m tei)
asked_of_link of_link {e} {s} {others} {m} service tei {place} {number} st is named_so there h =
    ap Some (asked_there of_link service tei st (place_of-is (places_of e.teis) tei place is).1 named_so there h)
    ∙ sym (ap (λ t. option_map (λ place. of_link (link_in m service place)) (place_of tei t.places)) st.management ∙ ap (option_map (λ place. of_link (link_in m service place))) is)
