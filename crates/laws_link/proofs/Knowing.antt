-- What layer 3 is told is what becomes of the link: every row keeps that.
use Rattle.laws_link.proofs.Vocabulary.{arith, ◌≡◌, ℕ, Bool, true, false, List, [], ◌∷◌, refl, ◌∙◌, not, ◌++◌, Note, ErrorCode, State, TeiAssigned, AwaitingEstablishment, Established, T203, Terms, is_asked, has_outstanding, Course, Step, ◌then◌, nothing, depending_on, Leads, keeping_then, nothing_leads, depending_leads, bit_leads, read_leads, tested_leads, to_less, seen, known}
use Rattle.laws_link.proofs.Vocabulary.{leaves}
use Rattle.laws_link.proofs.Vocabulary.{number_leads, asked_is, deliver, deliver_unit, discard, enter, establish_confirm, establish_indication, no_timer, note, release_confirm, release_indication, start, zero_numbers, failed}

-- the same as `is_up_in`, of what it speaks of
abbrev pub up_by : State → Bool → Bool
up_by TeiAssigned asked = false
up_by AwaitingEstablishment asked = not asked
up_by other asked = true

-- in this state, and known to layer 3 as what it is
pub record In (here state : State) (asked up : Bool) : Type 0 where
  pub state_is : state ≡ here
  pub known_is : up ≡ up_by here asked

-- what is wanted in the end
pub record Knows (state : State) (asked up : Bool) : Type 0 where
  pub known_is : up ≡ up_by state asked

-- one note more
pub one-more : (up : Bool) (ns : List Note) (n : Note) → known up (ns ++ n ∷ []) ≡ seen (known up ns) n
one-more up [] n = refl
one-more up (m ∷ ns) n = one-more (seen up m) ns n

-- a note that says nothing of up and down
abbrev pub is_plain : Note → Bool
is_plain (Note.EstablishIndication service tei) = false
is_plain (Note.EstablishConfirm service tei) = false
is_plain (Note.ReleaseIndication service tei) = false
is_plain (Note.ReleaseConfirm service tei) = false
is_plain other = true

module _ (up : Bool) where
  abbrev pub At : State → Course → Type 0
  At here c = In here c.link.state c.link.asked (known up c.notes)

  abbrev pub Ends : Course → Type 0
  Ends c = Knows c.link.state c.link.asked (known up c.notes)

  pub enough : (here state : State) (asked k : Bool) → In here state asked k → Knows state asked k
  enough here state asked k h = record { known_is = rw h.state_is h.known_is }

  pub at_ends : {here : State} {f : Step} → Leads (At here) f (At here) → Leads (At here) f Ends
  at_ends {here} {f} x = to_less (λ c h. enough here c.link.state c.link.asked (known up c.notes) h) x

  -- what is told, and layer 3 knows as before
  module _ (here : State) where
    pub note_knows : (n : Note) → is_plain n ≡ true → Leads (At here) (note n) (At here)
    note_knows n plain = grind (arith, one-more)

    pub deliver_knows : (t : Terms) (octets : List ℕ) → Leads (At here) (deliver t octets) (At here)
    deliver_knows t octets = record { leads = λ c h. (note_knows (Note.Data t.service t.tei) refl).leads c h }

    pub deliver_unit_knows : (t : Terms) (octets : List ℕ) → Leads (At here) (deliver_unit t octets) (At here)
    deliver_unit_knows t octets = record { leads = λ c h. (note_knows (Note.Unit t.service t.tei) refl).leads c h }

    pub indication_knows : (t : Terms) → ((asked : Bool) → up_by here asked ≡ true) → Leads (At here) (establish_indication t) (At here)
    indication_knows t e = grind (arith, one-more)

    pub enters : (state : State) → ((asked : Bool) → up_by here asked ≡ up_by state asked) → Leads (At here) (enter state) Ends
    enters state e = record { leads = λ c h. record { known_is = h.known_is ∙ e c.link.asked } }

    pub asks : (b : Bool) → ((asked : Bool) → up_by here asked ≡ not b) → Leads (At here) (asked_is b then enter AwaitingEstablishment) Ends
    asks b e = record { leads = λ c h. record { known_is = h.known_is ∙ e c.link.asked } }

  -- the ends of rows, whatever was before
  module _ {X : Course → Type 0} where
    pub indicates_release : (t : Terms) → Leads X (release_indication t then no_timer then enter TeiAssigned) Ends
    indicates_release t = record { leads = λ c h. record { known_is = one-more up c.notes (Note.ReleaseIndication t.service t.tei) } }

    pub confirms_release : (t : Terms) → Leads X (release_confirm t then no_timer then enter TeiAssigned) Ends
    confirms_release t = record { leads = λ c h. record { known_is = one-more up c.notes (Note.ReleaseConfirm t.service t.tei) } }

    pub indicates : (t : Terms) → Leads X (establish_indication t then enter Established) Ends
    indicates t = record { leads = λ c h. record { known_is = one-more up c.notes (Note.EstablishIndication t.service t.tei) } }

  -- from state 4
  pub confirms_in_4 : (t : Terms) → Leads (At TeiAssigned) (release_confirm t) (At TeiAssigned)
  confirms_in_4 t = grind (arith, one-more)

pub ruleset words = (leaves, keeping_then, nothing_leads, depending_leads, bit_leads, read_leads, note_knows, deliver_knows, deliver_unit_knows, confirms_in_4, indication_knows, refl)

pub ruleset ends = (indicates_release, confirms_release, indicates, asks, enters, words, at_ends)

-- from states 7 and 8
module _ (up : Bool) (t : Terms) (here : State) (e : (asked : Bool) → up_by here asked ≡ true) where
  pub failed_knows : (x : ErrorCode) → Leads (At up here) (failed t x) (Ends up)
  failed_knows x = record { leads = λ c h. record { known_is = ((note_knows up here (Note.Error t.service t.tei x) refl).leads c h).known_is ∙ e c.link.asked } }

pub ruleset rows = (ends, failed_knows, number_leads)
