-- Changes of the table, and the links that follow them.
use Rattle.lapd_line.proofs.Vocabulary.{◌≡◌, ◌≢◌, ℕ, ◌<◌, ◌≤◌, List, [], ◌++◌, length, get_or, set, slice_get, Some, None, refl, sym, ap, subst, ◌∙◌, arith, append_assoc, ⊎_elim, cases_eq, length-map, length-set, get_or-set_same, get_or-set_other, none-some, same_Some, slice_get-set_same, slice_get-set_other, Owned, Holds, Store, Service, Call, Packet, Link, BareReport, told_with, terms_of}
use Rattle.lapd_line.proofs.Vocabulary.{Gained, Left, TeiOutcome, HasJoined, HasLeft, Managing, management_of, places_of, own_of, Aim, told_of, Line, link_number, link_count, service_at, place_at, tei_at, terms, link_at, of_aim, of_change, told_of_link, told_of_management, with_cleared, with_opened, IsSound, IsSoundAt, IsInRange, place_at-number, service_at-number}
use Rattle.lapd_line.proofs.Vocabulary.{number_within, ranges_of, other_place, LinkLayer, told_in, unit_pairs, Marks, Sets, AreAwake, false, LinksStand, HasTerms, links_pairs, terms_in, machine_at, LayerStands, Serves, always, IsAnswerTo, with_management, Config, Terms, listed, cleared-tells, cleared-orders, LinkTold, Changing, Moves}
use Rattle.std.proofs.Common.{Vec, Global}
use Rattle.model_link.specs.Events as event
use Rattle.model_link.specs.Link as machine
use Rattle.model_link.specs.Machine as answers
use Rattle.lapd_line.specs.TeiChanges.{Leads}
use Rattle.model_line.proofs.Numbers.{at_place}
use Rattle.lapd_line.proofs.LinkEvents as links
use Rattle.lapd_line.proofs.AwakeSteps.{awake_begun, awake_cleared}
use Rattle.lapd_line.proofs.LayerSteps.{links_part, named, few_places}
use Rattle.lapd_line.proofs.LinkSteps.{Did, same_many, serves}

-- one link is cleared, and then another
both_cleared : {c : Config} {ls one two : List Link} {s u t : Store} {first second : ℕ} {call packet : BareReport} (t1 t2 : Terms) (others : List Owned) (ms : List machine.Link)
    → HasTerms ls first t1 → HasTerms ls second t2 → links.Serves first event.cleared [] ls s one u call → links.Serves second event.cleared [] one u two t packet → LinksStand c ls s others ms
    → (told_with [] call ≡ answers.told t1 event.cleared (machine_at ms first))
    × LinksStand c two t others (set (set ms first (answers.after t1 event.cleared (machine_at ms first))) second (answers.after t2 event.cleared (machine_at (set ms first (answers.after t1 event.cleared (machine_at ms first))) second)))
    × (told_with [] packet ≡ answers.told t2 event.cleared (machine_at (set ms first (answers.after t1 event.cleared (machine_at ms first))) second))
both_cleared {c} {second = second} t1 t2 others ms has_one has_two one two stand =
    let after_one = one.goes_on c t1 others ms has_one stand in
    let has = subst (λ l. slice_get l second ≡ Some t2) (sym one.terms) has_two in
    (one.told c t1 others ms has_one stand, two.goes_on c t2 others _ has after_one, two.told c t2 others _ has after_one)

-- the link of a free place is as it begins
free_link : {e : LinkLayer} {s : Store} {others : List Owned} {m : Line} (service : Service) (place : ℕ) → LayerStands e s others m → place < length (places_of e.teis) → get_or (places_of e.teis) place None ≡ None
    → machine_at m.links (link_number place service) ≡ machine.fresh
free_link {e} {m = m} service place st within free =
    let number = link_number place service in
    let low : place < e.config.terminals = omega (arith, within, st.sound.places, ap (λ t. length t.places) st.management) in
    let there : tei_at (place_at number) m ≡ None =
    ap (λ p. tei_at p m) (place_at-number place service) ∙ ap (λ t. get_or t.places place None) st.management ∙ free in
    subst (IsSoundAt e.config number (link_at number m)) there (st.sound.links number (number_within place e.config.terminals service low))

-- The entities after an event of TEI management: the table is another one, and so may the links be.
module _ (e : LinkLayer) (before : Managing) (aim : Aim) (outcome : TeiOutcome) (is : IsAnswerTo e.config aim before e.teis outcome) where
  leads : (s : Store) (others : List Owned) (m : Line) → LayerStands (with_management before e) s others m → Leads e.config aim e.teis outcome m
  leads s others m st = is.leads m (record { range = st.range; sound = st.sound; kind = st.kind; management = st.management; own = st.own })

  -- the table has moved as it is told
  pub moved : (s : Store) (others : List Owned) (m : Line) → LayerStands (with_management before e) s others m → Moves (places_of before) outcome.change (places_of e.teis)
  moved s others m st = subst (λ x. Moves x.places outcome.change (places_of e.teis)) st.management (leads s others m st).moves

  -- what the machine makes of it
  pub followed : (s : Store) (others : List Owned) (m : Line) → LayerStands (with_management before e) s others m
      → of_aim e.config aim m ≡ of_change e.config outcome.change (told_of_management (told_of outcome)) (record m { management = management_of e.config e.teis; own = own_of e.teis })
  followed s others m st = (leads s others m st).effect

  -- so they stand again, where the links do
  pub rebuilt : (s t : Store) (others : List Owned) (m : Line) (new : Vec Link Global) (ms : List machine.Link) (has_frame : Marks)
      → LayerStands (with_management before e) s others m
      → LinksStand e.config new.items t (unit_pairs e.units.waiting m.units ++ others) ms
      → length new.items ≡ length e.links.items
      → ((number tei : ℕ) → number < link_count e.config → get_or (places_of e.teis) (place_at number) None ≡ Some tei → HasTerms new.items number (terms e.config (service_at number) tei))
      → AreAwake has_frame new.items ms
      → (of_aim e.config aim m).line ≡ record m { management = management_of e.config e.teis; own = own_of e.teis; links = ms }
      → LayerStands (record e { links = new; has_frame = has_frame }) t others (record m { management = management_of e.config e.teis; own = own_of e.teis; links = ms })
  rebuilt s t others m new ms has_frame st stand count has_terms are_awake line = record {
    range = st.range;
    wide = stand.wide;
    sound = subst (IsSound e.config) line (leads s others m st).sound;
    management = refl;
    own = refl;
    kind = is.kind ∙ st.kind;
    count = count ∙ st.count;
    links = stand.fits;
    terms = has_terms;
    addressed = st.addressed;
    capacity = st.capacity;
    turn = st.turn;
    has_frame = are_awake;
    held = subst (Holds t) (sym (append_assoc (links_pairs new.items ms) (unit_pairs e.units.waiting m.units) others)) stand.held;
  }

  -- The table stays as it was.
  pub unmoved : (s : Store) (octets : List ℕ) (o : BareReport) → outcome.change ≡ None → told_in octets o ≡ told_of_management (told_of outcome)
      → Serves (always aim) octets (with_management before e) s e s o
  unmoved s octets o none told = record {
    config = refl;
    limits = record { slots = refl; width = refl };
    stands = λ others m st.
        let same : (places_of e.teis) ≡ (places_of before) = subst (λ c. Moves (places_of before) c (places_of e.teis)) none (moved s others m st) in
        let all : of_aim e.config aim m ≡ record { line = record m { management = management_of e.config e.teis; own = own_of e.teis }; told = told_of_management (told_of outcome) } =
        followed s others m st ∙ ap (λ c. of_change e.config c (told_of_management (told_of outcome)) (record m { management = management_of e.config e.teis; own = own_of e.teis })) none in
        subst (λ l. LayerStands e s others l) (sym (ap (λ x. x.line) all))
        (rebuilt s s others m e.links m.links e.has_frame st (links_part (with_management before e) s others m st) refl
        (λ number tei few at. st.terms number tei few (ap (λ b. get_or b.places (place_at number) None) st.management ∙ ap (λ p. get_or p (place_at number) None) (sym same) ∙ at))
        st.has_frame (ap (λ x. x.line) all));
    told = λ others m st. told ∙ ap (λ x. x.told) (sym (followed s others m st ∙ ap (λ c. of_change e.config c (told_of_management (told_of outcome)) (record m { management = management_of e.config e.teis; own = own_of e.teis })) none));
  }

  -- A TEI has come to the line.
  pub joined : (s : Store) (octets : List ℕ) (o : BareReport) (tei place : ℕ) (one : List Link) (two : Vec Link Global) → outcome.change ≡ Some (Gained tei place)
      → told_in octets o ≡ told_of_management (told_of outcome)
      → terms_in one ≡ set (terms_in e.links.items) (link_number place Call) (terms e.config Call tei)
      → terms_in two.items ≡ set (terms_in one) (link_number place Packet) (terms e.config Packet tei)
      → ((others : List Owned) (ms : List machine.Link) → LinksStand e.config e.links.items s others ms → LinksStand e.config one s others (set ms (link_number place Call) machine.fresh))
      → ((others : List Owned) (ms : List machine.Link) → LinksStand e.config one s others ms → LinksStand e.config two.items s others (set ms (link_number place Packet) machine.fresh))
      → Serves (always aim) octets (with_management before e) s (record e { links = two }) s o
  joined s octets o tei place one two gained told first_terms second_terms first second = record {
    config = refl;
    limits = record { slots = refl; width = refl };
    stands = λ others m st.
        let there : HasJoined (places_of before) (places_of e.teis) tei place = subst (λ c. Moves (places_of before) c (places_of e.teis)) gained (moved s others m st) in
        let all : of_aim e.config aim m ≡ record { line = with_opened place (record m { management = management_of e.config e.teis; own = own_of e.teis }); told = told_of_management (told_of outcome) } =
        followed s others m st ∙ ap (λ c. of_change e.config c (told_of_management (told_of outcome)) (record m { management = management_of e.config e.teis; own = own_of e.teis })) gained in
        subst (λ l. LayerStands (record e { links = two }) s others l) (sym (ap (λ x. x.line) all))
        (rebuilt s s others m two _ e.has_frame st (second _ _ (first _ _ (links_part (with_management before e) s others m st))) count (has_terms s others m st there) (are_awake s others m st there) (ap (λ x. x.line) all));
    told = λ others m st. told ∙ ap (λ x. x.told) (sym (followed s others m st ∙ ap (λ c. of_change e.config c (told_of_management (told_of outcome)) (record m { management = management_of e.config e.teis; own = own_of e.teis })) gained));
  }
    where
      call : ℕ
      call = link_number place Call

      packet : ℕ
      packet = link_number place Packet

      all_terms : terms_in two.items ≡ set (set (terms_in e.links.items) call (terms e.config Call tei)) packet (terms e.config Packet tei)
      all_terms = second_terms ∙ ap (λ l. set l packet (terms e.config Packet tei)) first_terms

      count : length two.items ≡ length e.links.items
      count = sym (length-map two.items terms_of) ∙ ap (λ l. length l) all_terms ∙ length-set _ packet _ ∙ length-set _ call _ ∙ length-map e.links.items terms_of

      -- they were asleep, as the place was free, and begin with nothing to give
      are_awake : (s' : Store) (others : List Owned) (m : Line) → LayerStands (with_management before e) s' others m → HasJoined (places_of before) (places_of e.teis) tei place
          → AreAwake e.has_frame two.items (set (set m.links call machine.fresh) packet machine.fresh)
      are_awake s' others m st there =
          awake_begun e.has_frame one two.items (set m.links call machine.fresh) packet (λ other apart. ap (λ l. slice_get l other) second_terms ∙ slice_get-set_other (terms_in one) packet other _ apart)
          (get_or-set_other m.links call packet machine.fresh machine.fresh (λ q. omega (arith, q)) ∙ free_link {e = with_management before e} Packet place st there.within there.was_free)
          (awake_begun e.has_frame e.links.items one m.links call (λ other apart. ap (λ l. slice_get l other) first_terms ∙ slice_get-set_other (terms_in e.links.items) call other _ apart) (free_link {e = with_management before e} Call place st there.within there.was_free) st.has_frame)

      has_terms : (s' : Store) (others : List Owned) (m : Line) → LayerStands (with_management before e) s' others m → HasJoined (places_of before) (places_of e.teis) tei place
          → (number tei' : ℕ) → number < link_count e.config → get_or (places_of e.teis) (place_at number) None ≡ Some tei' → HasTerms two.items number (terms e.config (service_at number) tei')
      has_terms s' others m st there number tei' few at =
          subst (λ l. slice_get l number ≡ Some (terms e.config (service_at number) tei')) (sym all_terms)
          (⊎_elim here away (cases_eq (place_at number) place))
        where
          places_are : get_or (set (places_of before) place (Some tei)) (place_at number) None ≡ Some tei'
          places_are = ap (λ p. get_or p (place_at number) None) (sym there.is_there) ∙ at

          long : length (terms_in e.links.items) ≡ link_count e.config
          long = length-map e.links.items terms_of ∙ st.count

          low : place < e.config.terminals
          low = omega (arith, there.within, st.sound.places, ap (λ b. length b.places) st.management)

          here : place_at number ≡ place → slice_get (set (set (terms_in e.links.items) call (terms e.config Call tei)) packet (terms e.config Packet tei)) number ≡ Some (terms e.config (service_at number) tei')
          here same =
              let tei_is : tei ≡ tei' = same_Some _ _ (sym (get_or-set_same (places_of before) place (Some tei) None there.within) ∙ ap (λ p. get_or (set (places_of before) place (Some tei)) p None) (sym same) ∙ places_are) in
              let long_one = length-set (terms_in e.links.items) call (terms e.config Call tei) in
              ⊎_elim
              (λ n. subst (λ x. slice_get (set (set (terms_in e.links.items) call (terms e.config Call tei)) packet (terms e.config Packet tei)) x ≡ Some (terms e.config (service_at x) tei')) (sym n)
              (slice_get-set_other _ packet call _ (λ q. omega (arith, q)) ∙ slice_get-set_same _ call _ (omega (arith, long, low))
              ∙ ap (λ u. Some (terms e.config Call u)) tei_is ∙ ap (λ v. Some (terms e.config v tei')) (sym (service_at-number place Call))))
              (λ n. subst (λ x. slice_get (set (set (terms_in e.links.items) call (terms e.config Call tei)) packet (terms e.config Packet tei)) x ≡ Some (terms e.config (service_at x) tei')) (sym n)
              (slice_get-set_same _ packet _ (omega (arith, long, low, long_one))
              ∙ ap (λ u. Some (terms e.config Packet u)) tei_is ∙ ap (λ v. Some (terms e.config v tei')) (sym (service_at-number place Packet))))
              (at_place number place same)

          away : place_at number ≢ place → slice_get (set (set (terms_in e.links.items) call (terms e.config Call tei)) packet (terms e.config Packet tei)) number ≡ Some (terms e.config (service_at number) tei')
          away other =
              slice_get-set_other _ packet number _ (λ p. other_place number place Packet other p)
              ∙ slice_get-set_other _ call number _ (λ p. other_place number place Call other p)
              ∙ st.terms number tei' few (ap (λ b. get_or b.places (place_at number) None) st.management ∙ sym (get_or-set_other (places_of before) place (place_at number) (Some tei) None other) ∙ places_are)

  -- A TEI has left the line.
  pub left : (s u t : Store) (octets : List ℕ) (o : BareReport) (tei place : ℕ) (one : List Link) (two : Vec Link Global) (call packet : BareReport) (mid has_frame : Marks) → outcome.change ≡ Some (Left tei place)
      → Sets (link_number place Call) false e.has_frame mid → Sets (link_number place Packet) false mid has_frame
      → links.Serves (link_number place Call) event.cleared [] e.links.items s one u call
      → links.Serves (link_number place Packet) event.cleared [] one u two.items t packet
      → told_in octets o ≡ with_cleared (told_of_link (told_with [] call)) (told_of_link (told_with [] packet)) (told_of_management (told_of outcome))
      → Serves (always aim) octets (with_management before e) s (record e { links = two; has_frame = has_frame }) t o
  left s u t octets o tei place one two call packet mid has_frame gone sleeps sleeps_too first second told = record {
    config = refl;
    limits = record { slots = second.limits.slots ∙ first.limits.slots; width = second.limits.width ∙ first.limits.width };
    stands = λ others m st.
        let all = followed s others m st ∙ ap (λ c. of_change e.config c (told_of_management (told_of outcome)) (record m { management = management_of e.config e.teis; own = own_of e.teis })) gone in
        subst (λ l. LayerStands (record e { links = two; has_frame = has_frame }) t others l) (sym (ap (λ x. x.line) all))
        (rebuilt s t others m two _ has_frame st (both s others m st).1 (same_many two.items e.links.items same_terms) (has_terms s others m st) (are_awake m st.has_frame) (ap (λ x. x.line) all));
    told = λ others m st.
        let all = followed s others m st ∙ ap (λ c. of_change e.config c (told_of_management (told_of outcome)) (record m { management = management_of e.config e.teis; own = own_of e.teis })) gone in
        told
        ∙ ap (λ x. with_cleared (told_of_link x) (told_of_link (told_with [] packet)) (told_of_management (told_of outcome))) (both s others m st).0
        ∙ ap (λ x. with_cleared (told_of_link (answers.told (terms e.config Call tei) event.cleared (machine_at m.links (link_number place Call)))) (told_of_link x) (told_of_management (told_of outcome))) (both s others m st).2
        ∙ sym (ap (λ x. x.told) all);
  }
    where
      there : (s' : Store) (others : List Owned) (m : Line) → LayerStands (with_management before e) s' others m → HasLeft (places_of before) (places_of e.teis) tei place
      there s' others m st = subst (λ c. Moves (places_of before) c (places_of e.teis)) gone (moved s' others m st)

      one_of : List machine.Link → List machine.Link
      one_of ms = set ms (link_number place Call) (answers.after (terms e.config Call tei) event.cleared (machine_at ms (link_number place Call)))

      both : (s' : Store) (others : List Owned) (m : Line) → LayerStands (with_management before e) s others m
          → (told_with [] call ≡ answers.told (terms e.config Call tei) event.cleared (machine_at m.links (link_number place Call)))
          × LinksStand e.config two.items t (unit_pairs e.units.waiting m.units ++ others) (set (one_of m.links) (link_number place Packet) (answers.after (terms e.config Packet tei) event.cleared (machine_at (one_of m.links) (link_number place Packet))))
          × (told_with [] packet ≡ answers.told (terms e.config Packet tei) event.cleared (machine_at (one_of m.links) (link_number place Packet)))
      both s' others m st =
          let at = (there s others m st).was_there in
          both_cleared _ _ _ m.links (named (with_management before e) s others m Call tei place st at).has_terms (named (with_management before e) s others m Packet tei place st at).has_terms first second
          (links_part (with_management before e) s others m st)

      same_terms : terms_in two.items ≡ terms_in e.links.items
      same_terms = second.terms ∙ first.terms

      -- they begin anew, and have nothing to give
      are_awake : (m : Line) → AreAwake e.has_frame e.links.items m.links
          → AreAwake has_frame two.items (set (one_of m.links) (link_number place Packet) (answers.after (terms e.config Packet tei) event.cleared (machine_at (one_of m.links) (link_number place Packet))))
      are_awake m h =
          awake_cleared mid has_frame one two.items (one_of m.links) (link_number place Packet) sleeps_too second.terms
          (awake_cleared e.has_frame mid e.links.items one m.links (link_number place Call) sleeps first.terms h)

      has_terms : (s' : Store) (others : List Owned) (m : Line) → LayerStands (with_management before e) s' others m
          → (number tei' : ℕ) → number < link_count e.config → get_or (places_of e.teis) (place_at number) None ≡ Some tei' → HasTerms two.items number (terms e.config (service_at number) tei')
      has_terms s' others m st number tei' few at =
          let gone_from = there s' others m st in
          let places_are : get_or (set (places_of before) place None) (place_at number) None ≡ Some tei' = ap (λ p. get_or p (place_at number) None) (sym gone_from.is_free) ∙ at in
          subst (λ l. slice_get l number ≡ Some (terms e.config (service_at number) tei')) (sym same_terms)
          (⊎_elim
          (λ same. absurd (none-some tei' (sym (get_or-set_same (places_of before) place None None gone_from.within) ∙ ap (λ p. get_or (set (places_of before) place None) p None) (sym same) ∙ places_are)))
          (λ other. st.terms number tei' few (ap (λ b. get_or b.places (place_at number) None) st.management ∙ sym (get_or-set_other (places_of before) place (place_at number) None None other) ∙ places_are))
          (cases_eq (place_at number) place))

-- What is known where a TEI has come to a place, before its links begin; and where it has left, before they are cleared.
module _ (e : LinkLayer) (s : Store) (tei place : ℕ) where
  pub record Coming : Type 0 where
    pub others : List Owned
    pub ms : List machine.Link
    pub stand : LinksStand e.config e.links.items s others ms
    pub range : IsInRange e.config
    pub low : tei ≤ 126
    pub exact : {number result : ℕ} → (place ≤ 8 → result ≡ number) → result ≡ number
    pub within : (service : Service) {number : ℕ} → (place ≤ 8 → number ≡ link_number place service) → number < length e.links.items
    pub fresh : (service : Service) {number : ℕ} → (place ≤ 8 → number ≡ link_number place service) → machine_at ms number ≡ machine.fresh

  pub record Going : Type 0 where
    pub others : List Owned
    pub ms : List machine.Link
    pub stand : LinksStand e.config e.links.items s others ms
    pub exact : {number result : ℕ} → (place ≤ 8 → result ≡ number) → result ≡ number
    pub within : (service : Service) {number : ℕ} → (place ≤ 8 → number ≡ link_number place service) → number < length e.links.items
    pub low : (service : Service) {number : ℕ} → (place ≤ 8 → number ≡ link_number place service) → number < 64
    pub has : (service : Service) {number : ℕ} → (place ≤ 8 → number ≡ link_number place service) → HasTerms e.links.items number (terms e.config service tei)

-- there are such links, whose numbers are exact
link_within : {e : LinkLayer} {s : Store} {others : List Owned} {m : Line} (service : Service) (place : ℕ) {number : ℕ} → LayerStands e s others m → place < length (places_of e.teis) → number ≡ link_number place service → number < length e.links.items
link_within {e} service place st within is =
    let low : place < e.config.terminals = omega (arith, within, st.sound.places, ap (λ t. length t.places) st.management) in
    omega (arith, is, st.count, number_within place e.config.terminals service low)

pub next_within : {e : LinkLayer} {s : Store} {tei place second : ℕ} (first : ℕ) (y : Link) → Coming e s tei place → (place ≤ 8 → second ≡ link_number place Packet) → second < length (set e.links.items first y)
next_within {e} first y k is_packet = omega (arith, k.within Packet is_packet, length-set e.links.items first y)

pub coming : {e : LinkLayer} {s : Store} {outcome : TeiOutcome} {tei place : ℕ} → Changing e s outcome → outcome.change ≡ Some (Gained tei place) → Coming e s tei place
coming {e} {s} {outcome} {tei} {place} (aim, before, is, (others, m, st)) gained =
    let there : HasJoined (places_of before) (places_of e.teis) tei place = subst (λ c. Moves (places_of before) c (places_of e.teis)) gained (moved e before aim outcome is s others m st) in
    let few = few_places (with_management before e) s others m st in
    record {
      others = unit_pairs e.units.waiting m.units ++ others;
      ms = m.links;
      stand = links_part (with_management before e) s others m st;
      range = st.range;
      low = there.range;
      exact = λ h. h (omega (arith, there.within, few));
      within = λ service h. link_within service place st there.within (h (omega (arith, there.within, few)));
      fresh = λ service h. ap (machine_at m.links) (h (omega (arith, there.within, few))) ∙ free_link service place st there.within there.was_free;
    }

pub going : {e : LinkLayer} {s : Store} {outcome : TeiOutcome} {tei place : ℕ} → Changing e s outcome → outcome.change ≡ Some (Left tei place) → Going e s tei place
going {e} {s} {outcome} {tei} {place} (aim, before, is, (others, m, st)) gone =
    let there : HasLeft (places_of before) (places_of e.teis) tei place = subst (λ c. Moves (places_of before) c (places_of e.teis)) gone (moved e before aim outcome is s others m st) in
    let few = few_places (with_management before e) s others m st in
    record {
      others = unit_pairs e.units.waiting m.units ++ others;
      ms = m.links;
      stand = links_part (with_management before e) s others m st;
      exact = λ h. h (omega (arith, there.within, few));
      within = λ service h. link_within service place st there.within (h (omega (arith, there.within, few)));
      low = λ service h. omega (arith, link_within service place st there.within (h (omega (arith, there.within, few))), st.count, (ranges_of e.config st.range).terminals.most);
      has = λ service h.
          subst (λ n. HasTerms e.links.items n (terms e.config service tei)) (sym (h (omega (arith, there.within, few)))) (named (with_management before e) s others m service tei place st there.was_there).has_terms;
    }

-- so the first of them is cleared,
pub first_cleared : {e : LinkLayer} {s u : Store} {tei place first : ℕ} {x y : Link} {call : BareReport} → Going e s tei place → (place ≤ 8 → first ≡ link_number place Call) → x ≡ get_or e.links.items first x
    → Did event.cleared [] x s y u call → links.Serves first event.cleared [] e.links.items s (set e.links.items first y) u call
first_cleared {e} k is_call is did = serves (k.within Call is_call) is did (e.config, k.others, k.ms, k.stand)

pub second_within : {e : LinkLayer} {s : Store} {tei place second : ℕ} (first : ℕ) (y : Link) → Going e s tei place → (place ≤ 8 → second ≡ link_number place Packet) → second < length (set e.links.items first y)
second_within {e} first y k is_packet = omega (arith, k.within Packet is_packet, length-set e.links.items first y)

-- and all stand, and then the second
pub next_stands : {e : LinkLayer} {s u : Store} {tei place first : ℕ} {one : List Link} {call : BareReport} → Going e s tei place → (place ≤ 8 → first ≡ link_number place Call)
    → links.Serves first event.cleared [] e.links.items s one u call → (c : Config) × (others : List Owned) × (ms : List machine.Link) × LinksStand c one u others ms
next_stands {e} {tei = tei} k is_call served = (e.config, k.others, _, served.goes_on e.config (terms e.config Call tei) k.others k.ms (k.has Call is_call) k.stand)

-- the two links tell little
IsFew : LinkTold → Type 0
IsFew t = (length t.notes ≤ 1) × (length t.orders ≤ 1)

pub few_told : {e : LinkLayer} {s u t : Store} {tei place first second : ℕ} {one two : List Link} {call packet : BareReport} (k : Going e s tei place)
    → (place ≤ 8 → first ≡ link_number place Call) → (place ≤ 8 → second ≡ link_number place Packet)
    → links.Serves first event.cleared [] e.links.items s one u call → links.Serves second event.cleared [] one u two t packet
    → ((length (listed call.notes) ≤ 1) × (length (listed call.orders) ≤ 1)) × ((length (listed packet.notes) ≤ 1) × (length (listed packet.orders) ≤ 1))
unfolding IsFew
few_told {e} {tei = tei} {first = first} {second} k is_call is_packet one two =
    let of_call = terms e.config Call tei in
    let of_packet = terms e.config Packet tei in
    let cleared = set k.ms first (answers.after of_call event.cleared (machine_at k.ms first)) in
    let both = both_cleared of_call of_packet k.others k.ms (k.has Call is_call) (k.has Packet is_packet) one two k.stand in (
      subst IsFew (sym both.0) (cleared-tells of_call (machine_at k.ms first), cleared-orders of_call (machine_at k.ms first)),
      subst IsFew (sym both.2) (cleared-tells of_packet (machine_at cleared second), cleared-orders of_packet (machine_at cleared second)),
    )
