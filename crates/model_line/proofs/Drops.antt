-- What is dropped changes nothing, and costs nothing.
use Rattle.model_line.proofs.Vocabulary.{arith, ◌≡◌, ℕ, Bool, true, false, cond, Option, Some, None, IsSome, refl, sym, ap, ◌∙◌, unwrap_or, set-get_or, none-some, Cause, Unserved, Service, fresh, Config, hears, told, may_send, cause_in, Line, link_number, link_in, with_link, terms, aim_of_heard, Effect, unserved_cause, told_of_link, of_link, of_change, of_management, of_network, of_terminal}
use Rattle.model_line.proofs.Vocabulary.{of_terminal_if, at_a_terminal, is_terminal, terminal_in, with_terminal, told_of_management, LineTold, Change, Gained, Left, Terminal, TerminalEvent, TeiTold, terminal_after, terminal_told, of_aim, unserved_leaves, LinkReceived, link_received, link_told}
use Rattle.model_line.proofs.Vocabulary.{link_told_of, TeiEvent, tei_message, StreamEvent}
use Rattle.model_teis.proofs.OfNetwork.LawLemmas as tei_lemmas
use Rattle.model_teis.proofs.OfTerminal.Told.{unserved_changes_nothing}
use Rattle.model_line.specs.Event.{dropped}
use Rattle.model_line.specs.Machine as lines
use Rattle.model_line.proofs.ProperAims.{heard_aims}

-- a link or TEI management names a cause exactly where it does not serve
unserved_is : (b : Bool) (cause : Cause) → unserved_cause b ≡ Some cause → (b ≡ true) × (Unserved ≡ cause)
unserved_is b cause e = grind (arith, none-some)

-- What is left where a cause is named: the cause is all that is told, and the line is as it was.
abbrev Leaves : Line → Effect → Type 0
Leaves l out = (cause : Cause) → out.told.cause ≡ Some cause → (out.told ≡ dropped cause) × (out.line ≡ l)

-- a timer that ran before and runs after is neither started nor stopped
link_leaves : (c : Config) (service : Service) (tei place : ℕ) (what : LinkReceived) (l : Line) → Leaves l (of_link c service tei place (link_received what) l)
link_leaves c service tei place what l cause h =
    let t = terms c service tei in
    let n = link_number place service in
    let x = link_in l service place in
    let known = unserved_is (link_told t (link_received what) x).unserved cause h in
    let same = unserved_leaves t x what known.0 in
    let told : told_of_link (link_told t (link_received what) x) ≡ dropped Unserved =
    ap (λ course. told_of_link (link_told_of t x course)) same ∙ ap (λ orders. record (dropped Unserved) { orders = orders }) (grind arith) in (
      told ∙ ap dropped known.1,
      ap (λ course. with_link n course.link l) same ∙ ap (λ ls. record l { links = ls }) (set-get_or l.links n fresh),
    )

network_leaves : (c : Config) (event : TeiEvent) (l : Line) → Leaves l (of_network c event l)
network_leaves c event l cause h = grind (arith, unserved_is, tei_lemmas.unserved_changes_nothing)

its_cause : (c : Config) (o : Option Change) (t : LineTold) (l : Line) → (of_change c o t l).told.cause ≡ t.cause
its_cause c None t l = refl
its_cause c (Some (Gained tei place)) t l = refl
its_cause c (Some (Left tei place)) t l = refl

terminal_leaves : (c : Config) (event : TerminalEvent) (l : Line) → Leaves l (of_terminal c event l)
terminal_leaves c event l cause h =
    let t = terminal_told event (terminal_in l) in
    let is = unserved_is t.unserved cause (sym (its_cause c t.change (told_of_management t) (with_terminal (terminal_after event (terminal_in l)) l)) ∙ h) in
    let same = unserved_changes_nothing event (terminal_in l) is.0 in
    let whole : of_terminal c event l ≡ record { line = l; told = dropped Unserved } =
    ap (λ (t : TeiTold). of_change c t.change (told_of_management t) (with_terminal (terminal_after event (terminal_in l)) l)) same.1
    ∙ ap (λ (m : Terminal). record { line = with_terminal m l; told = dropped Unserved }) same.0 in
    (ap (λ (out : Effect). out.told) whole ∙ ap dropped is.1, ap (λ (out : Effect). out.line) whole)

terminal_if_leaves : (c : Config) (o : Option TerminalEvent) (l : Line) → Leaves l (of_terminal_if c o l)
terminal_if_leaves c None l cause h = absurd (none-some cause h)
terminal_if_leaves c (Some event) l cause h = terminal_leaves c event l cause h

management_leaves : (c : Config) (event : TeiEvent) (l : Line) → Leaves l (of_management c event l)
management_leaves c event l =
    elim (is_terminal c) as (λ b. Leaves l (cond b (of_terminal_if c (at_a_terminal event) l) (of_network c event l))) [
      | true ↦ terminal_if_leaves c (at_a_terminal event) l
      | false ↦ network_leaves c event l
    ]

-- what is heard whose answer names a cause
pub heard_leaves : (c : Config) (e : StreamEvent) (l : Line) (cause : Cause) → cause_in (lines.answer c (hears e) l) ≡ Some cause
    → (lines.answer c (hears e) l ≡ told (dropped cause)) × (lines.after c (hears e) l ≡ l)
unfolding lines.answer lines.after
heard_leaves c e l cause h =
    let left = go e cause h in
    (ap told left.0, left.1)
  where
    go : (e : StreamEvent) → Leaves l (of_aim c (aim_of_heard c l e) l)
    go =
        heard_aims c l (λ aim. Leaves l (of_aim c aim l)) (λ why cause h. (ap dropped (ap (λ o. unwrap_or o why) h), refl))
        (λ service tei place what at. link_leaves c service tei place what l)
        (λ info. management_leaves c (tei_message info) l)
        (λ parts service to cause h. absurd (none-some cause h))

-- a cause that is named
pub named_cause : (o : Option Cause) → IsSome o → (cause : Cause) × (o ≡ Some cause)
named_cause o h = grind arith

-- and what may be sent stays
pub drop_costs_nothing : (c : Config) (e : StreamEvent) (l : Line) → IsSome (cause_in (lines.answer c (hears e) l))
    → may_send c (lines.after c (hears e) l) ≡ may_send c l
drop_costs_nothing c e l h = grind (arith, named_cause, heard_leaves)
