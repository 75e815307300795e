-- Requests, and why they are refused.
use Rattle.lapd_line.proofs.Vocabulary.{management_of, places_of, ◌≡◌, ℕ, ◌+◌, ◌||◌, Bool, true, false, not, ◌≤◌, nat_lt, List, [], ◌∷◌, length, Option, Some, None, refl, sym, ap, subst, ◌∙◌, cond, arith, option_map_or, ltb-false, none-some, prefix_len, list_any, Refusal, BadTei, NoLink, WrongState, Service, serves, Terms, Places, is_on, place_of, IsAt, is_on-at, place_of-is, Config, Line}
use Rattle.lapd_line.proofs.Vocabulary.{has_tei, link_of}
use Rattle.lapd_line.proofs.Vocabulary.{link_in}
use Rattle.lapd_line.proofs.Vocabulary.{place_in, terms, link_number, with_link, refusal, Establish, Release, Data, SetBusy, ClearBusy, Assign, Remove, Check, Owned, Store, Link, told_with, at_link, of_aim, told_of_link, at_requested, Marks, LinkLayer, BareReport, LayerStands, Standing, Serves, Sets, HasTerms, Refuses, machine_at, told_in, link_refusal, management_refusal, Deactivate}
use Rattle.lapd_line.proofs.Vocabulary.{AskTei, Disown, Managing, Own, Request, VerifyTei, has_management, is_network, is_terminal, is_terminals, own_of, terminal_with}
use Rattle.model_link.specs.Events as link
use Rattle.model_link.specs.Link as machine
use Rattle.model_link.specs.Machine as answers
use Rattle.model_link.specs.Requests as links
use Rattle.model_teis.specs.network.Events as teis
use Rattle.lapd_frame.specs.declared.refusals.Refusal.TheVariants.{WrongSide}
use Rattle.model_teis.specs.network.Machine.{Management}
use Rattle.model_teis.specs.terminal.Events as terminals
use Rattle.lapd_line.specs.declared.managing.Managing.TheVariants as kind
use Rattle.lapd_line.specs.Requests.{is_bad, may_ask, refusal_at, request_asked}
use Rattle.lapd_line.specs.declared.requests.TeiRequest.{TeiRequest}
use Rattle.lapd_line.proofs.LayerSteps.{beside_links, links_part, named, numbered, at_link_serves}
use Rattle.lapd_line.proofs.LinkSteps.{Did, IsLooked}
use Rattle.std.specs.Vec.{with_item}
use Rattle.lapd_line.proofs.Vocabulary.{get_or}
use Rattle.lapd_line.specs.declared.requests.TeiRequest.TheVariants as tei_request

-- a test that refuses, and its opposite
turned : {X : Type 0} (b : Bool) (x y : X) → cond (not b) x y ≡ cond b y x
turned b x y = grind arith

module _ (c : Config) (full : Bool) (service : Service) (tei : ℕ) (l : Line) where
  -- the rows of a request of a link are what is asked of the TEI and of the link
  with_rest : (x y : Option Refusal) → x ≡ y → cond (nat_lt 126 tei) (Some BadTei) (cond (not (has_tei tei l)) (Some NoLink) x) ≡ cond (nat_lt 126 tei) (Some BadTei) (cond (not (has_tei tei l)) (Some NoLink) y)
  with_rest x y = ap (λ r. cond (nat_lt 126 tei) (Some BadTei) (cond (not (has_tei tei l)) (Some NoLink) r))

  pub establish_rows : refusal c full (Establish service tei) l ≡ link_refusal c full service tei link.Establish l
  establish_rows = with_rest _ _ (turned (serves c.reading (link_of service tei l).state (link_of service tei l).owed link.Establish) (Some WrongState) None)

  pub release_rows : refusal c full (Release service tei) l ≡ link_refusal c full service tei link.Release l
  release_rows = with_rest _ _ (turned (serves c.reading (link_of service tei l).state (link_of service tei l).owed link.Release) (Some WrongState) None)

  pub set_busy_rows : refusal c full (SetBusy service tei) l ≡ link_refusal c full service tei link.SetBusy l
  set_busy_rows = with_rest _ _ (turned (serves c.reading (link_of service tei l).state (link_of service tei l).owed link.SetBusy) (Some WrongState) None)

  pub clear_busy_rows : refusal c full (ClearBusy service tei) l ≡ link_refusal c full service tei link.ClearBusy l
  clear_busy_rows = with_rest _ _ (turned (serves c.reading (link_of service tei l).state (link_of service tei l).owed link.ClearBusy) (Some WrongState) None)

  pub data_rows : (contents : List ℕ) → refusal c full (Data service tei contents) l ≡ link_refusal c full service tei (link.Data contents) l
  data_rows contents = with_rest _ _ (turned (serves c.reading (link_of service tei l).state (link_of service tei l).owed (link.Data contents)) (Some WrongState) _)

-- and those of a request of management
no_network : (c : Config) → is_terminal c ≡ true → is_network c.side ≡ false
no_network c is = grind arith

module _ (c : Config) (full : Bool) (l : Line) where
  abbrev Rows : Request → TeiRequest → ℕ → Managing → Type 0
  Rows r asked tei x = is_terminals x ≡ is_terminal c → l.management ≡ management_of c x → l.own ≡ own_of x → refusal c full r l ≡ management_refusal c asked tei x

  abbrev sided : Bool → Bool → Option Refusal → Option Refusal
  sided may bad rest = cond (not may) (Some WrongSide) (cond bad (Some BadTei) rest)

  -- where the side is a wrong one, nothing else is looked at
  wrong : (may bad : Bool) (x y : Option Refusal) → may ≡ false → sided may bad x ≡ sided may bad y
  wrong may bad x y is = ap (λ b. sided b bad x) is ∙ ap (λ b. sided b bad y) (sym is)

  assign_rows : (tei : ℕ) (x : Managing) → Rows (Assign tei) tei_request.Assign tei x
  unfolding teis.refusal
  assign_rows tei (kind.Network m) k management own = ap (λ x. sided true (nat_lt 126 tei) (teis.refusal (teis.assign tei) x)) management
  assign_rows tei (kind.Terminal t) k management own = ap (λ x. sided true (nat_lt 126 tei) (teis.refusal (teis.assign tei) x)) management

  remove_rows : (tei : ℕ) (x : Managing) → Rows (Remove tei) tei_request.Remove tei x
  unfolding teis.refusal
  remove_rows tei (kind.Network m) k management own = ap (λ x. sided (has_management c) (nat_lt 126 tei) (teis.refusal (teis.remove tei) x)) management
  remove_rows tei (kind.Terminal t) k management own = ap (λ x. sided (has_management c) (nat_lt 126 tei) (teis.refusal (teis.remove tei) x)) management

  check_rows : (tei : ℕ) (x : Managing) → Rows (Check tei) tei_request.Check tei x
  unfolding teis.refusal
  check_rows tei (kind.Network m) k management own = ap (λ x. sided (is_network c.side) (nat_lt 126 tei) (teis.refusal (teis.check tei) x)) management
  check_rows tei (kind.Terminal t) k management own = wrong (is_network c.side) (nat_lt 126 tei) _ _ (no_network c (sym k))

  disown_rows : (tei : ℕ) (x : Managing) → Rows (Disown tei) tei_request.Disown tei x
  unfolding teis.refusal
  disown_rows tei (kind.Network m) k management own = ap (λ x. sided (is_network c.side) (nat_lt 127 tei) (teis.refusal (teis.disown tei) x)) management
  disown_rows tei (kind.Terminal t) k management own = wrong (is_network c.side) (nat_lt 127 tei) _ _ (no_network c (sym k))

  -- a terminal's rows read the table and the procedure
  abbrev asks : Management → Own → Option Refusal
  asks m own = terminals.refusal terminals.ask (terminal_with m own)

  ask_rows : (tei : ℕ) (x : Managing) → Rows AskTei tei_request.Ask tei x
  ask_rows tei (kind.Network m) k management own = wrong (is_terminal c) false _ _ (sym k)
  ask_rows tei (kind.Terminal t) k management own =
      ap (λ m. sided (is_terminal c) false (asks m l.own)) management ∙ ap (λ o. sided (is_terminal c) false (asks (management_of c (kind.Terminal t)) o)) own

  abbrev verifies : ℕ → Management → Own → Option Refusal
  verifies tei m own = terminals.refusal (terminals.verify tei) (terminal_with m own)

  verify_rows : (tei : ℕ) (x : Managing) → Rows (VerifyTei tei) tei_request.Verify tei x
  verify_rows tei (kind.Network m) k management own = wrong (is_terminal c) (nat_lt 126 tei) _ _ (sym k)
  verify_rows tei (kind.Terminal t) k management own =
      ap (λ m. sided (is_terminal c) (nat_lt 126 tei) (verifies tei m l.own)) management
      ∙ ap (λ o. sided (is_terminal c) (nat_lt 126 tei) (verifies tei (management_of c (kind.Terminal t)) o)) own

  pub all_rows : (asked : TeiRequest) (tei : ℕ) (x : Managing) → Rows (request_asked asked tei) asked tei x
  all_rows tei_request.Assign tei x = assign_rows tei x
  all_rows tei_request.Remove tei x = remove_rows tei x
  all_rows tei_request.Check tei x = check_rows tei x
  all_rows tei_request.Disown tei x = disown_rows tei x
  all_rows tei_request.Ask tei x = ask_rows tei x
  all_rows tei_request.Verify tei x = verify_rows tei x

-- so a request of management is refused for its side, for the TEI that it names, or by TEI management, or it is granted
module _ (e : LinkLayer) (s : Store) (others : List Owned) (m : Line) (st : LayerStands e s others m) (asked : TeiRequest) (tei : ℕ) where
  its_rows : refusal e.config false (request_asked asked tei) m ≡ management_refusal e.config asked tei e.teis
  its_rows = all_rows e.config false m asked tei e.teis st.kind st.management st.own

  pub by_management : {why : Option Refusal} → may_ask e.config asked ≡ true → is_bad asked tei ≡ false → refusal_at asked tei e.teis ≡ why → refusal e.config false (request_asked asked tei) m ≡ why
  by_management may bad is =
      its_rows ∙ ap (λ b. cond (not b) (Some WrongSide) (cond (is_bad asked tei) (Some BadTei) (refusal_at asked tei e.teis))) may
      ∙ ap (λ b. cond b (Some BadTei) (refusal_at asked tei e.teis)) bad ∙ is

-- a granted request does the same, whether the pool is full or not
pub granted_same : (t : Terms) (m : machine.Link) (full : Bool) (request : link.Request) → links.refusal t m full request ≡ None → links.refusal t m false request ≡ None
granted_same t m full request = grind (arith, nat_lt)

-- a TEI of a terminal
pub low_tei : (tei : ℕ) → tei ≤ 126 → nat_lt 126 tei ≡ false
low_tei tei low = grind (arith, nat_lt)

-- a TEI without a place is not on the line
none_any : {X : Type 0} (p : X → Bool) (xs : List X) → length xs ≤ prefix_len (λ x. not (p x)) xs → list_any p xs ≡ false
none_any p [] e = refl
none_any p (x ∷ xs) e = go (p x) (none_any p xs) e
  where
    go : (b : Bool) → (length xs ≤ prefix_len (λ y. not (p y)) xs → list_any p xs ≡ false)
        → length (x ∷ xs) ≤ cond (not b) (1 + prefix_len (λ y. not (p y)) xs) 0 → b || list_any p xs ≡ false
    go b rest e = grind arith

pub off_line : (places : Places) (tei : ℕ) → place_of tei places ≡ None → is_on tei places ≡ false
off_line places tei = grind (arith, nat_lt, none-some, none_any, ltb-false)

-- where the link of a request is, the link refuses, or not
module _ (e : LinkLayer) (s : Store) (others : List Owned) (m : Line) (st : LayerStands e s others m) (service : Service) (tei : ℕ) (full : Bool) (request : link.Request) where
  pub no_link : nat_lt 126 tei ≡ false → place_of tei (places_of e.teis) ≡ None → link_refusal e.config full service tei request m ≡ Some NoLink
  no_link low none =
      ap (λ b. cond b (Some BadTei) (cond (not (has_tei tei m)) (Some NoLink) (links.refusal (terms e.config service tei) (link_of service tei m) full request))) low
      ∙ ap (λ b. cond (not b) (Some NoLink) (links.refusal (terms e.config service tei) (link_of service tei m) full request)) (ap (λ t. is_on tei t.places) st.management ∙ off_line (places_of e.teis) tei none)

  pub asked : (place number : ℕ) (why : Option Refusal) → nat_lt 126 tei ≡ false → place_of tei (places_of e.teis) ≡ Some place → (place ≤ 8 → number ≡ link_number place service)
      → Refuses number full request e.links.items s why → link_refusal e.config full service tei request m ≡ why
  asked place number why low here exact refuses =
      let at = (place_of-is (places_of e.teis) tei place here).1 in
      let n = named e s others m service tei place st at in
      let same : number ≡ link_number place service = numbered e s tei place (others, m, st) at exact in
      let on : has_tei tei m ≡ true = ap (λ t. is_on tei t.places) st.management ∙ is_on-at (places_of e.teis) place tei at in
      let this : link_of service tei m ≡ machine_at m.links (link_number place service) = ap (λ o. option_map_or (link_in m service) o machine.fresh) (ap (λ t. place_of tei t.places) st.management ∙ here) in
      ap (λ b. cond b (Some BadTei) (cond (not (has_tei tei m)) (Some NoLink) (links.refusal (terms e.config service tei) (link_of service tei m) full request))) low
      ∙ ap (λ b. cond (not b) (Some NoLink) (links.refusal (terms e.config service tei) (link_of service tei m) full request)) on
      ∙ ap (λ x. links.refusal (terms e.config service tei) x full request) (this ∙ ap (machine_at m.links) (sym same))
      ∙ refuses e.config (terms e.config service tei) (beside_links e m others) m.links (subst (λ x. HasTerms e.links.items x (terms e.config service tei)) (sym same) n.has_terms) (links_part e s others m st)

-- a deactivation is refused where there is no link, and granted where there is one
module _ (e : LinkLayer) (s : Store) (others : List Owned) (m : Line) (st : LayerStands e s others m) (service : Service) (tei : ℕ) where
  pub deactivated_refused : nat_lt 126 tei ≡ false → place_of tei (places_of e.teis) ≡ None → refusal e.config false (Deactivate service tei) m ≡ Some NoLink
  deactivated_refused low none =
      ap (λ b. cond b (Some BadTei) (cond (not (has_tei tei m)) (Some NoLink) None)) low
      ∙ ap (λ b. cond (not b) (Some NoLink) None) (ap (λ t. is_on tei t.places) st.management ∙ off_line (places_of e.teis) tei none)

  pub deactivated_granted : (place : ℕ) → nat_lt 126 tei ≡ false → place_of tei (places_of e.teis) ≡ Some place → refusal e.config false (Deactivate service tei) m ≡ None
  deactivated_granted place low here =
      let at = (place_of-is (places_of e.teis) tei place here).1 in
      ap (λ b. cond b (Some BadTei) (cond (not (has_tei tei m)) (Some NoLink) None)) low
      ∙ ap (λ b. cond (not b) (Some NoLink) None) (ap (λ t. is_on tei t.places) st.management ∙ is_on-at (places_of e.teis) place tei at)

-- what is granted is the same, whether the pool is full or not
same_step : (t : Terms) (l : machine.Link) (full : Bool) (request : link.Request) → links.refusal t l full request ≡ None → answers.course t (link.requested request full) l ≡ answers.course t (link.requested request false) l
same_step t l full request granted = grind (arith, granted_same)

pub asked_serves : {e : LinkLayer} {s t : Store} {x y : Link} {has_frame : Marks} (service : Service) (tei : ℕ) {place number : ℕ} {full : Bool} {request : link.Request} {answer outcome : BareReport} {looked : Bool}
    → Standing e s → place_of tei (places_of e.teis) ≡ Some place → (place ≤ 8 → number ≡ link_number place service) → x ≡ get_or e.links.items number x
    → IsLooked y looked → Sets number looked e.has_frame has_frame → Refuses number full request e.links.items s None
    → Did (link.requested request full) [] x s y t answer
    → (answer.cause ≡ None → told_in [] outcome ≡ told_of_link (told_with [] answer))
    → Serves (λ m. at_requested service tei request (place_in m tei)) [] e s (record e { links = with_item e.links number y; has_frame = has_frame }) t outcome
asked_serves {e} {s} {t} {y = y} {has_frame} service tei {place} {number} {full} {request} {outcome = outcome} standing here exact is looks sets refuses did told =
    let at = (place_of-is (places_of e.teis) tei place here).1 in
    let same : number ≡ link_number place service = numbered e s tei place standing at exact in
    let whole = at_link_serves {octets = []} {outcome = outcome} standing at exact is did looks sets told in
    record {
      config = refl;
      limits = whole.limits;
      stands = λ others m st. subst (λ o. LayerStands (record e { links = with_item e.links number y; has_frame = has_frame }) t others o.line) (one others m st at same) (whole.stands others m st);
      told = λ others m st. whole.told others m st ∙ ap (λ o. o.told) (one others m st at same);
    }
  where
    one : (others : List Owned) (m : Line) → LayerStands e s others m → IsAt (places_of e.teis) place tei → number ≡ link_number place service
        → of_aim e.config (at_link service tei place (link.requested request full)) m ≡ of_aim e.config (at_requested service tei request (place_in m tei)) m
    one others m st at same =
        let n = named e s others m service tei place st at in
        let granted = refuses e.config (terms e.config service tei) (beside_links e m others) m.links (subst (λ x. HasTerms e.links.items x (terms e.config service tei)) (sym same) n.has_terms) (links_part e s others m st) in
        let l = link_in m service place in
        let course = same_step (terms e.config service tei) l full request (ap (λ x. links.refusal (terms e.config service tei) (machine_at m.links x) full request) (sym same) ∙ granted) in
        ap (λ k. record { line = with_link (link_number place service) k.link m; told = told_of_link (answers.told_of (terms e.config service tei) l k) }) course
        ∙ ap (λ o. of_aim e.config (at_requested service tei request o) m) (sym (ap (λ x. place_of tei x.places) st.management ∙ here))
