-- TEI management of either kind: what its answers are to the machine of a line.
use Rattle.lapd_line.proofs.Vocabulary.{◌≡◌, true, false, cond, [], Option, Some, None, option_map, IfOk, IfOk-weaker, Result, Refusal, refl, sym, ap, subst, ◌∙◌, Config, Line, Own, Management, Aim, at_management, at_terminal, of_aim, of_change, of_network, of_terminal, of_terminal_if, at_a_terminal, told_of_management, is_terminal, terminal_in, terminal_with, with_terminal, nothing, IsProper}
use Rattle.lapd_line.proofs.Vocabulary.{IsOfSide}
use Rattle.lapd_line.proofs.Vocabulary.{aim_sound, TeiOutcome, told_of, changes_are_told, message_taken, with_message, with_own_message}
use Rattle.model_teis.specs.network.Events as teis
use Rattle.model_teis.specs.network.Laws as tei_laws
use Rattle.model_teis.specs.Changes.{Moves}
use Rattle.model_teis.specs.Told.{nothing as untold}
use Rattle.model_teis.specs.terminal.Events as terminals
use Rattle.model_teis.specs.terminal.Laws as terminal_laws
use Rattle.model_teis.specs.terminal.Machine.{Terminal}
use Rattle.model_teis.specs.terminal.Sound as terminal_sound
use Rattle.model_teis.specs.terminal.Words.{Course}
use Rattle.model_teis.proofs.OfNetwork.Brief.{IsBrief}
use Rattle.model_teis.proofs.OfTerminal.Brief.{told_brief}
use Rattle.model_teis.proofs.OfTerminal.Served.{leads}
use Rattle.lapd_tei.specs.Outcome.{IsShort}
use Rattle.model_line.proofs.Managed.{idle_course}
use Rattle.lapd_line.specs.declared.managing.Managing.{Managing}
use Rattle.lapd_line.specs.declared.managing.Managing.TheVariants as kind
use Rattle.lapd_line.specs.Managing.{management_of, places_of, own_of, is_terminals, offered_by, without_message}
use Rattle.lapd_line.specs.TeiChanges.{Finds, Leads, Answers}

-- At a side that is no terminal's an event of TEI management is the network's,
at_network : (c : Config) (e : teis.Event) (m : Line) → is_terminal c ≡ false → of_aim c (at_management e) m ≡ of_network c e m
at_network c e m net = ap (λ b. cond b (of_terminal_if c (at_a_terminal e) m) (of_network c e m)) net

-- and at a terminal it is the terminal's, if that has it.
at_terminals : (c : Config) (e : teis.Event) (o : Option terminals.Event) (m : Line) → is_terminal c ≡ true → at_a_terminal e ≡ o → of_aim c (at_management e) m ≡ of_terminal_if c o m
at_terminals c e o m is same =
    ap (λ b. cond b (of_terminal_if c (at_a_terminal e) m) (of_network c e m)) is ∙ ap (λ x. of_terminal_if c x m) same

-- The network's side has served an event.
pub network_answers : (e : teis.Event) (b n : Management) (outcome : TeiOutcome) → tei_laws.IsInRange e → n ≡ teis.after e b → told_of outcome ≡ teis.told e b
    → Answers (at_management e) (kind.Network b) (kind.Network n) outcome
network_answers e b n outcome range after told c = record { kind = refl; leads = one }
  where
    one : (m : Line) → Finds c (kind.Network b) m → Leads c (at_management e) (kind.Network n) outcome m
    one m f = record {
      effect =
          at_network c e m (sym f.kind)
          ∙ ap (λ x. of_change c (teis.told e x).change (told_of_management (teis.told e x)) (record m { management = teis.after e x })) f.management
          ∙ ap (λ t. of_change c t.change (told_of_management t) (record m { management = teis.after e b })) (sym told)
          ∙ ap (λ x. of_change c outcome.change (told_of_management (told_of outcome)) (record m { management = x })) (sym after)
          ∙ ap (λ x. of_change c outcome.change (told_of_management (told_of outcome)) (record m { management = n; own = x })) f.own;
      moves =
          let law = changes_are_told e m.management range f.sound.management in
          let moved : Moves m.management.places (teis.told e b).change (teis.after e b).places = subst (λ x. Moves m.management.places (teis.told e x).change (teis.after e x).places) f.management law in
          subst (λ x. Moves m.management.places x n.places) (ap (λ t. t.change) (sym told)) (subst (λ x. Moves m.management.places (teis.told e b).change x.places) (sym after) moved);
      sound = aim_sound c f.range m (at_management e) f.sound range;
    }

-- A terminal has served one: it has found what the line has.
its_terminal : (c : Config) (b : Terminal) (m : Line) → Finds c (kind.Terminal b) m → terminal_in m ≡ b
its_terminal c b m f = ap (λ x. terminal_with x m.own) f.management ∙ ap (terminal_with (management_of c (kind.Terminal b))) f.own

terminal_leads : (c : Config) (aim : Aim) (e : terminals.Event) (b n : Terminal) (outcome : TeiOutcome) → terminal_laws.IsInRange e → n ≡ terminals.after e b
    → told_of outcome ≡ terminals.told e b
    → (m : Line) → Finds c (kind.Terminal b) m → of_aim c aim m ≡ of_terminal c e m → IsProper c m aim → Leads c aim (kind.Terminal n) outcome m
terminal_leads c aim e b n outcome range after told m f is proper = record {
  effect =
      is
      ∙ ap (λ x. of_change c (terminals.told e x).change (told_of_management (terminals.told e x)) (with_terminal (terminals.after e x) m)) same
      ∙ ap (λ t. of_change c t.change (told_of_management t) (with_terminal (terminals.after e b) m)) (sym told)
      ∙ ap (λ x. of_change c outcome.change (told_of_management (told_of outcome)) (with_terminal x m)) (sym after)
      ∙ ap (λ x. of_change c outcome.change (told_of_management (told_of outcome)) (record m { management = record x { reading = n.reading; places = n.places }; own = own_of (kind.Terminal n) })) f.management;
  moves =
      let moved : Moves m.management.places (terminals.told e b).change (terminals.after e b).places = subst (λ x. Moves m.management.places (terminals.told e x).change (terminals.after e x).places) same (leads e (terminal_in m) range own).moves in
      subst (λ x. Moves m.management.places x n.places) (ap (λ t. t.change) (sym told)) (subst (λ x. Moves m.management.places (terminals.told e b).change x.places) (sym after) moved);
  sound = aim_sound c f.range m aim f.sound proper;
}
  where
    same : terminal_in m ≡ b
    same = its_terminal c b m f

    own : terminal_sound.IsSound (terminal_in m)
    own = (subst (λ x. IsOfSide x m.management m.own) (sym f.kind) f.sound.own).0

-- an event that the network's side has, too,
pub terminal_answers : (e : teis.Event) (own : terminals.Event) (b n : Terminal) (outcome : TeiOutcome) → at_a_terminal e ≡ Some own → tei_laws.IsInRange e → terminal_laws.IsInRange own
    → n ≡ terminals.after own b → told_of outcome ≡ terminals.told own b → Answers (at_management e) (kind.Terminal b) (kind.Terminal n) outcome
terminal_answers e own b n outcome same range own_range after told c = record {
  kind = refl;
  leads = λ m f. terminal_leads c (at_management e) own b n outcome own_range after told m f (at_terminals c e (Some own) m (sym f.kind) same) range;
}

-- and one of its own.
pub own_answers : (e : terminals.Event) (b n : Terminal) (outcome : TeiOutcome) → ((c : Config) (m : Line) → is_terminal c ≡ true → IsProper c m (at_terminal e)) → terminal_laws.IsInRange e
    → n ≡ terminals.after e b → told_of outcome ≡ terminals.told e b → Answers (at_terminal e) (kind.Terminal b) (kind.Terminal n) outcome
own_answers e b n outcome proper range after told c = record {
  kind = refl;
  leads = λ m f. terminal_leads c (at_terminal e) e b n outcome range after told m f refl (proper c m (sym f.kind));
}

-- What was asked of either, if it was not refused,
pub network_asked : (aim : Aim) (e : teis.Event) (x : Managing) (b n : Management) (r : Result TeiOutcome Refusal) → x ≡ kind.Network b → aim ≡ at_management e → tei_laws.IsInRange e
    → n ≡ teis.after e b → IfOk r (λ outcome. told_of outcome ≡ teis.told e b) → IfOk r (Answers aim x (kind.Network n))
network_asked aim e x b n r is same range after told =
    IfOk-weaker r _ _ (λ outcome told. subst (λ x. Answers aim x (kind.Network n) outcome) (sym is) (subst (λ a. Answers a (kind.Network b) (kind.Network n) outcome) (sym same) (network_answers e b n outcome range after told))) told

pub terminal_asked : (aim : Aim) (e : teis.Event) (own : terminals.Event) (x : Managing) (b n : Terminal) (r : Result TeiOutcome Refusal) → x ≡ kind.Terminal b → aim ≡ at_management e
    → at_a_terminal e ≡ Some own → tei_laws.IsInRange e → terminal_laws.IsInRange own → n ≡ terminals.after own b
    → IfOk r (λ outcome. told_of outcome ≡ terminals.told own b) → IfOk r (Answers aim x (kind.Terminal n))
terminal_asked aim e own x b n r is same there range own_range after told =
    IfOk-weaker r _ _ (λ outcome told. subst (λ x. Answers aim x (kind.Terminal n) outcome) (sym is) (subst (λ a. Answers a (kind.Terminal b) (kind.Terminal n) outcome) (sym same) (terminal_answers e own b n outcome there range own_range after told))) told

pub own_asked : (aim : Aim) (e : terminals.Event) (x : Managing) (b n : Terminal) (r : Result TeiOutcome Refusal) → x ≡ kind.Terminal b → aim ≡ at_terminal e
    → ((c : Config) (m : Line) → is_terminal c ≡ true → IsProper c m (at_terminal e)) → terminal_laws.IsInRange e → n ≡ terminals.after e b
    → IfOk r (λ outcome. told_of outcome ≡ terminals.told e b) → IfOk r (Answers aim x (kind.Terminal n))
own_asked aim e x b n r is same proper range after told =
    IfOk-weaker r _ _ (λ outcome told. subst (λ x. Answers aim x (kind.Terminal n) outcome) (sym is) (subst (λ a. Answers a (kind.Terminal b) (kind.Terminal n) outcome) (sym same) (own_answers e b n outcome proper range after told))) told

-- It tells a note and an order at most.
pub terminal_short : (e : terminals.Event) (b : Terminal) (outcome : TeiOutcome) → told_of outcome ≡ terminals.told e b → IsShort outcome
terminal_short e b outcome told =
    let brief = subst IsBrief (sym told) (told_brief e b) in
    record { notes = brief.notes; orders = brief.orders }

-- Nothing happens.
idle_leads : (c : Config) (aim : Aim) (x : Managing) (outcome : TeiOutcome) → told_of outcome ≡ untold
    → (m : Line) → Finds c x m → of_aim c aim m ≡ record { line = m; told = nothing } → IsProper c m aim → Leads c aim x outcome m
idle_leads c aim x outcome told m f is proper = record {
  effect =
      is
      ∙ ap (λ y. of_change c None nothing (record m { management = y })) f.management
      ∙ ap (λ y. of_change c None nothing (record m { management = management_of c x; own = y })) f.own
      ∙ ap (λ t. of_change c t.change (told_of_management t) (record m { management = management_of c x; own = own_of x })) (sym told);
  moves = subst (λ t. Moves m.management.places t.change (places_of x)) (sym told) (ap (λ y. y.places) (sym f.management));
  sound = aim_sound c f.range m aim f.sound proper;
}

-- T201 does not run at a terminal, nor T202 at another side.
pub no_t201 : (b : Terminal) (outcome : TeiOutcome) → told_of outcome ≡ untold → Answers (at_management teis.expiry) (kind.Terminal b) (kind.Terminal b) outcome
no_t201 b outcome told c = record {
  kind = refl;
  leads = λ m f. idle_leads c (at_management teis.expiry) (kind.Terminal b) outcome told m f (at_terminals c teis.expiry None m (sym f.kind) refl) tt;
}

pub no_t202 : (b : Management) (outcome : TeiOutcome) → told_of outcome ≡ untold → Answers (at_terminal terminals.expiry) (kind.Network b) (kind.Network b) outcome
no_t202 b outcome told c = record {
  kind = refl;
  leads = λ m f.
      idle_leads c (at_terminal terminals.expiry) (kind.Network b) outcome told m f
      (ap (λ (course : Course). of_change c course.told.change (told_of_management course.told) (with_terminal course.now m)) (idle_course c m f.sound (ap (λ (x : Own). x.procedure) f.own))) tt;
}

-- A message that waits is taken.
pub message_of_kind : (c : Config) (x : Managing) (m : Line) → is_terminals x ≡ is_terminal c → m.management ≡ management_of c x → m.own ≡ own_of x
    → message_taken c m ≡ option_map (λ octets. record { frame = octets; orders = []; line = record m { management = management_of c (without_message x); own = own_of (without_message x) } }) (offered_by c.side x)
message_of_kind c (kind.Network b) m is management own =
    ap (λ b. cond b (option_map (with_own_message m) (terminals.offered (terminal_in m))) (option_map (with_message m) (teis.offered c.side m.management))) (sym is)
    ∙ ap (λ x. option_map (λ octets. record { frame = octets; orders = []; line = record m { management = teis.after_offer x } }) (teis.offered c.side x)) management
    ∙ ap (λ x. option_map (λ octets. record { frame = octets; orders = []; line = record m { management = teis.after_offer b; own = x } }) (teis.offered c.side b)) own
message_of_kind c (kind.Terminal b) m is management own =
    ap (λ b. cond b (option_map (with_own_message m) (terminals.offered (terminal_in m))) (option_map (with_message m) (teis.offered c.side m.management))) (sym is)
    ∙ ap (λ x. option_map (λ octets. record { frame = octets; orders = []; line = with_terminal (terminals.after_offer x) m }) (terminals.offered x))
    (ap (λ x. terminal_with x m.own) management ∙ ap (terminal_with (management_of c (kind.Terminal b))) own)
    ∙ ap (λ x. option_map (λ octets. record { frame = octets; orders = []; line = record m { management = record x { reading = b.reading; places = b.places }; own = own_of (without_message (kind.Terminal b)) } }) (terminals.offered b)) management
