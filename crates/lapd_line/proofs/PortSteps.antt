-- What a port does.
use Rattle.lapd_line.proofs.Vocabulary.{first_type, arith, ◌≡◌, ℕ, ◌≤◌, Bool, false, List, [], ◌∷◌, ◌++◌, length, length-append, take, take-append_seam, slice_get, Option, Some, None, is_some, option_map, option_to_list, fold, fold-append, ◌⊎◌, refl, sym, ap, ◌∙◌, subst, append_assoc, le-ltb, same_Some, option_map_or, unwrap_or, bits, low_bits, number_of, Framing, runs_low, refilled}
use Rattle.lapd_line.proofs.Vocabulary.{with_idle, Item, frame, line_text, bits-push}
use Rattle.lapd_line.proofs.Vocabulary.{heard_in}
use Rattle.lapd_line.proofs.Vocabulary.{Head, head_shown, listed, ShortList, Order, Owned, Store, next, answer_shown, answer, without_octets, Cause, in_bits, Loading, TakesNext, FrameLine, config_of, orders_taken, IsLoaded, IsSaid, PortStands, or_heard, or_latest, with_frame, left_is, one_item, text_of, Port, Ended, IsTextOf, LineStands, Answer, NextFrame}
use Rattle.lapd_bits.specs.declared.ended.Ended.TheVariants as ended
use Rattle.model_bits.specs.Framer as framer
use Rattle.model_bits.specs.Stream as stream
use Rattle.model_line.specs.Line as lines
use Rattle.model_card.specs.ports.FrameHeard.{before_latest, ended_by_latest}
use Rattle.model_card.specs.ports.Port as machine
use Rattle.model_card.specs.ports.Port.{gained, is_due, next_octet, with_item, frame_begun, pull, pulled}
use Rattle.lapd_line.proofs.MessageSteps.{head_and_message, type_counted}
use Rattle.lapd_line.proofs.NextSteps.{gave_none, gave_one, given_is}

-- ---- what comes

-- what is heard with one octet more is what that octet brought
last_gained : {X : Type 0} (xs : List X) (o : Option X) → slice_get (xs ++ option_to_list o) (length xs) ≡ o
last_gained [] None = refl
last_gained [] (Some x) = refl
last_gained (y ∷ xs) o = last_gained xs o

pub gained_is : (n201 octet : ℕ) (received : List ℕ) (o : Option stream.Event) → heard_in n201 (received ++ octet ∷ []) ≡ heard_in n201 received ++ option_to_list o → gained n201 received octet ≡ o
gained_is n201 octet received o is = ap (λ l. slice_get l (length (heard_in n201 received))) is ∙ last_gained (heard_in n201 received) o

-- and that is what the latest octet has ended
without_latest : (octets : List ℕ) (octet : ℕ) → before_latest (octets ++ octet ∷ []) ≡ octets
without_latest octets octet =
    ap (λ n. take n (octets ++ octet ∷ [])) (omega (arith, length-append octets (octet ∷ []))) ∙ take-append_seam octets (octet ∷ [])

pub ended_is : (n201 octet : ℕ) (received : List ℕ) (o : Option stream.Event) → heard_in n201 (received ++ octet ∷ []) ≡ heard_in n201 received ++ option_to_list o
    → o ≡ ended_by_latest n201 (received ++ octet ∷ [])
ended_is n201 octet received o is =
    sym (ap (λ r. slice_get (heard_in n201 (received ++ octet ∷ [])) (length (heard_in n201 r))) (without_latest received octet) ∙ gained_is n201 octet received o is)

-- an octet that ended nothing brought no event
pub nothing_heard : (o : Option stream.Event) → ended.Nothing ≡ without_octets o → o ≡ None
nothing_heard o e = grind arith

pub is_dropped : (o : Option stream.Event) (cause : Cause) → ended.Dropped cause ≡ without_octets o → o ≡ Some (stream.dropped cause)
is_dropped o cause e = grind arith

-- how the latest frame began is what it was, with what the octet has ended
pub latest_more : (n201 octet : ℕ) (received : List ℕ) (o : Option stream.Event) → heard_in n201 (received ++ octet ∷ []) ≡ heard_in n201 received ++ option_to_list o
    → fold (or_heard n201) None (heard_in n201 (received ++ octet ∷ [])) ≡ or_latest n201 (fold (or_heard n201) None (heard_in n201 received)) o
latest_more n201 octet received o is = grind (arith, fold-append, option_to_list)

-- what ended nothing, or was dropped, leaves it
pub latest_left : (n201 : ℕ) (before : Option Head) (o : Option stream.Event) (e : Ended) → e ≡ without_octets o → (e ≡ ended.Nothing) ⊎ ((cause : Cause) × (e ≡ ended.Dropped cause))
    → or_latest n201 before o ≡ before
latest_left n201 before o e told is = grind arith

-- ---- what goes

-- an item is due exactly where the framer's bits run low
pub due_is : {n201 : ℕ} {port : Port} {p : machine.Port} → PortStands n201 port p → is_due p ≡ runs_low port.framer.left
due_is {port = port} {p} st = ap runs_low (left_is p port.framer.left st.sent.text)

pub port_text : {n201 : ℕ} {port : Port} {p : machine.Port} → PortStands n201 port p → IsTextOf p
port_text {port = port} {p} st = text_of p port.framer.left st.sent.text

-- the framer in it
framing_in : Loading → Framing → Framing
framing_in (in_bits f) other = f
framing_in other f = f

same_framing : {f g : Framing} → in_bits g ≡ in_bits f → g ≡ f
unfolding framing_in
same_framing {f} {g} same = ap (λ l. framing_in l f) same

-- the next frame is loaded into the port
abbrev pub reframed : Port → Framing → Port
reframed port g = record port { framer = g }

module _ {old : FrameLine} {s : Store} {mid : FrameLine} {t : Store} (port : Port) {g : Framing} {given : Option (List Order)}
    (h : TakesNext old s (in_bits port.framer) mid t (in_bits g) given) where
  pub none_loaded : {orders : Option (List Order)} → given ≡ None → orders ≡ None → (others : List Owned) (m : lines.Line) → LineStands old s others m
      → IsLoaded (answer (config_of old) next m) orders port (reframed port g)
  none_loaded {orders} none as_none others m st =
      let (is, same) = gave_none h none others m st in
      subst (λ a. IsLoaded a orders port (reframed port g)) (sym is)
      (record { orders = as_none; stands = λ n201 p there. subst (λ f. PortStands n201 (reframed port f) p) (sym (same_framing same)) there })

  pub one_loaded : {orders : List Order} → given ≡ Some orders → (others : List Owned) (m : lines.Line) → LineStands old s others m
      → IsLoaded (answer (config_of old) next m) (Some orders) port (reframed port g)
  one_loaded {orders} some others m st =
      let one = gave_one h some others m st in
      subst (λ a. IsLoaded a (Some orders) port (reframed port g)) (sym one.is)
      (record {
        orders = ap Some one.loaded.0;
        stands = λ n201 p there. record { received = there.received; sent = one.loaded.1.0 p.items p.given there.sent; room = h.room ∙ there.room; latest = there.latest; limit = there.limit; ended = there.ended };
      })

  -- and what is shown of it is its head, and the message that waited first
  pub head_is : {orders : List Order} {head : Option Head} {type : Option ℕ} → given ≡ Some orders → head ≡ g.begun → type ≡ first_type old.layer.teis
      → (others : List Owned) (m : lines.Line) → LineStands old s others m
      → answer_shown (config_of old).side (answer (config_of old) next m) ≡ option_map_or (λ x. head_shown (config_of old).side x ++ type_counted type) head []
  head_is {head = head} {type = type} some is first others m st =
      let one = gave_one h some others m st in
      given_is (config_of old) m one.frame one.frame.octets one.is refl
      ∙ head_and_message (config_of old).side one.frame.octets head type (is ∙ one.loaded.1.1)
      (one.message ∙ ap type_counted (sym first))

-- The framer gave this octet.
pub record Gives (f g : Framing) (octet : ℕ) : Type 0 where
  pub value : octet ≡ number_of (take 8 (refilled f.left))
  pub bits : low_bits 8 octet ++ g.left ≡ refilled f.left
  pub room : g.room ≡ f.room
  pub stands : (items : List Item) (given : List ℕ) → framer.FramerStands f items given → framer.FramerStands g (with_idle f.left items) (given ++ octet ∷ [])

-- a frame that was just loaded leaves enough bits for an octet
loaded : (p : machine.Port) (one : NextFrame) (left : List Bool) → IsTextOf p → line_text (p.items ++ frame one.octets ∷ []) ≡ bits p.given ++ left → runs_low left ≡ false
loaded p one left text is =
    let ready = one_item p (frame one.octets) text in
    le-ltb (length left) 8 (subst (λ x. 8 ≤ length x) (left_is (with_frame (Some one) p) left is) ready.enough)

-- where none was loaded but an item is due, an idle flag goes on
goes_on : (p : machine.Port) (f : Framing) (said : Option Answer) → is_some said ≡ is_due p → IsTextOf p
    → framer.FramerStands f (with_frame (frame_begun said) p).items p.given
    → record (with_frame (frame_begun said) p) { items = with_idle f.left (with_frame (frame_begun said) p).items } ≡ with_item said p
goes_on p f said due text st = grind (arith, left_is, loaded)

same_given : (p : machine.Port) (o : Option NextFrame) → (with_frame o p).given ≡ p.given
same_given p o = grind arith

-- the octet that a port gives next is the framer's
next_is : (q : machine.Port) (f g : Framing) (octet : ℕ) → Gives f g octet → framer.FramerStands f q.items q.given
    → next_octet (record q { items = with_idle f.left q.items }) ≡ octet
next_is q f g octet h st =
    let r : machine.Port = record q { items = with_idle f.left q.items } in
    let text : line_text r.items ≡ bits r.given ++ refilled f.left =
    (h.stands q.items q.given st).text
    ∙ ap (λ x. x ++ g.left) (bits-push q.given octet)
    ∙ append_assoc (bits q.given) (low_bits 8 octet) g.left
    ∙ ap (λ x. bits q.given ++ x) h.bits in
    ap (λ x. number_of (take 8 x)) (left_is r (refilled f.left) text) ∙ sym h.value

module _ {port : Port} {g : Framing} {octet : ℕ} (gives : Gives port.framer g octet) (n201 : ℕ) (p : machine.Port) (said : Option Answer) (taken : Option (ShortList Order))
    (is : IsSaid p said (orders_taken taken)) (st : PortStands n201 port (with_frame (frame_begun said) p)) where
  abbrev begun : machine.Port
  begun = with_frame (frame_begun said) p

  item_is : record begun { items = with_idle port.framer.left begun.items } ≡ with_item said p
  item_is = goes_on p port.framer said is.due is.text (subst (framer.FramerStands port.framer begun.items) (same_given p (frame_begun said)) st.sent)

  octet_is : next_octet (with_item said p) ≡ octet
  octet_is = ap next_octet (sym item_is) ∙ next_is begun port.framer g octet gives st.sent

  -- so the port has given what the machine gives
  pub given_on : PortStands n201 (reframed port g) (machine.after pull said p)
  given_on =
      subst (PortStands n201 (reframed port g))
      (sym (ap {B = machine.Port} (λ x. record (with_item said p) { given = (with_item said p).given ++ x ∷ [] }) octet_is
      ∙ ap {A = machine.Port} {B = machine.Port} (λ q. record q { given = q.given ++ octet ∷ [] }) (sym item_is)))
      (record { received = st.received; sent = gives.stands begun.items begun.given st.sent; room = gives.room ∙ st.room; latest = st.latest; limit = st.limit; ended = st.ended })

  -- and answers what it answers
  pub given_told : (none told : ShortList Order) (taken_one : Bool) → taken_one ≡ is_some taken → listed none ≡ [] → told ≡ unwrap_or taken none
      → pulled octet taken_one (listed told) ≡ machine.answer pull said p
  given_told none told taken_one one empty told_is = grind (arith, is_some, octet_is, option_map, same_Some)
