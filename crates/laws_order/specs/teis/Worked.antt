-- Worked runs: a terminal that is assigned a TEI, one that misses its removal, and two that have one TEI.
use Rattle.std.specs.Prelude.{◌≡◌, ℕ, true, false, List, [], ◌∷◌, ◌++◌, Some, refl, ◌<◌, ◌==◌, ◌&&◌, Bool, All}
use Rattle.std.proofs.Common.{eqb-true, subst, sym}
use Rattle.std.proofs.lemmas.Bool.{and_parts, ltb-true}
use Rattle.std.proofs.lemmas.List.Elements.{All-cons, All-nil}
use Rattle.lapd_frame.specs.declared.addresses.Side.TheVariants.{User}
use Rattle.lapd_frame.specs.declared.readings.Reading.TheVariants.{AnnexB}
use Rattle.lapd_frame.specs.declared.timers.Timer.TheVariants.{T201}
use Rattle.lapd_frame.specs.Reading.{reading, header_of, control_of, unnumbered_of}
use Rattle.lapd_frame.specs.Senders.{exchanged, reading as read_by}
use Rattle.model_teis.specs.network.Events as teis
use Rattle.model_teis.specs.declared.network.remembered.Remembered.{Remembered}
use Rattle.model_teis.specs.terminal.Events as terminals
use Rattle.model_bits.specs.Stream.{frame}
use Rattle.model_line.specs.Config as configs
use Rattle.model_line.specs.declared.config.Config.{Config}
use Rattle.model_line.specs.Event.{hears, expiry, next}
use Rattle.model_line.specs.Machine as lines
use Rattle.model_line.specs.Request.{AskTei, Remove, Check, Down}
use Rattle.model_card.specs.Event.{at}
use Rattle.model_card.specs.Run.{moments, after_all}
use Rattle.laws_line.specs.card.Worked.{usual, on_0}
use Rattle.laws_order.specs.teis.Bus.{Bus, Past, Step, network, terminal, receives, loses, past_of, network_of, removal_comes}
use Rattle.laws_order.specs.teis.Assignments.{CanMeet, IsThere, given_to}
use Rattle.laws_order.specs.teis.TwoTerminals.{is_older}

-- A network's line, and terminals with the seeds 0x1234 and 0x4321.
abbrev seeded : ℕ → Config
seeded seed = record usual { side = User; seed = Some seed }

abbrev bus : ℕ → Bus
bus seed = record { network = usual; number = 0; terminal = seeded seed; line = 0 }

can_meet : CanMeet (bus 0x1234)
unfolding configs.sapi_fault
can_meet = record { side = refl; own = refl; network = refl; terminal = refl; number = ltb-true 0 1 refl; line = ltb-true 0 1 refl }

can_meet_too : CanMeet (bus 0x4321)
unfolding configs.sapi_fault
can_meet_too = record { side = refl; own = refl; network = refl; terminal = refl; number = ltb-true 0 1 refl; line = ltb-true 0 1 refl }

-- All that happens below is at their lines.
abbrev is_at_0 : Step → Bool
is_at_0 (network e) = e.line == 0
is_at_0 (terminal e) = e.line == 0
is_at_0 other = true

abbrev are_at_0 : List Step → Bool
are_at_0 [] = true
are_at_0 (step ∷ steps) = is_at_0 step && are_at_0 steps

is_there_then : (seed : ℕ) (step : Step) → is_at_0 step ≡ true → IsThere (bus seed) step
is_there_then seed (network e) is = subst (λ n. n < 1) (sym (eqb-true e.line 0 is)) (ltb-true 0 1 refl)
is_there_then seed (terminal e) is = subst (λ n. n < 1) (sym (eqb-true e.line 0 is)) (ltb-true 0 1 refl)
is_there_then seed receives is = tt
is_there_then seed loses is = tt

are_there : (seed : ℕ) (steps : List Step) → are_at_0 steps ≡ true → All (IsThere (bus seed)) steps
are_there seed [] is = All-nil (IsThere (bus seed))
are_there seed (step ∷ steps) is =
    let parts = and_parts (is_at_0 step) (are_at_0 steps) is in
    All-cons (IsThere (bus seed)) step steps (is_there_then seed step parts.0) (are_there seed steps parts.1)

-- The terminal asks, and its request comes to the network, which answers. Others ask by 0x4321.
abbrev asks : Step
asks = terminal (on_0 AskTei)

abbrev request_comes : ℕ → ℕ → Step
request_comes high low = network (at 0 (hears (frame (0xFC ∷ 0xFF ∷ 0x03 ∷ 0x0F ∷ high ∷ low ∷ 1 ∷ 0xFF ∷ []))))

abbrev sends : Step
sends = network (at 0 next)

abbrev assigned : List Step
assigned = asks ∷ request_comes 0x12 0x34 ∷ sends ∷ receives ∷ []

abbrev first : Remembered
first = record { ri = 0x1234; tei = 64 }

abbrev known_after : List Step → Past
known_after steps = past_of (bus 0x1234) steps

is_given : given_to (bus 0x1234) (known_after assigned) ≡ first ∷ []
unfolding moments after_all lines.after lines.answer lines.takes_slot teis.course teis.refusal terminals.course exchanged read_by reading header_of control_of unnumbered_of
is_given = refl

it_holds : (network_of (bus 0x1234) (known_after assigned)).hold ≡ first ∷ []
unfolding moments after_all lines.after lines.answer lines.takes_slot teis.course teis.refusal terminals.course exchanged read_by reading header_of control_of unnumbered_of
it_holds = refl

-- It is removed: the removal is owed, then in transit, and then heard.
abbrev removed : List Step
removed = assigned ++ network (on_0 (Remove 64)) ∷ []

removal_owed : removal_comes (bus 0x1234) (known_after removed) 64 ≡ true
unfolding moments after_all lines.after lines.answer lines.takes_slot teis.course teis.refusal terminals.course exchanged read_by reading header_of control_of unnumbered_of
removal_owed = refl

holds_no_more : (network_of (bus 0x1234) (known_after removed)).hold ≡ []
unfolding moments after_all lines.after lines.answer lines.takes_slot teis.course teis.refusal terminals.course exchanged read_by reading header_of control_of unnumbered_of
holds_no_more = refl

removal_in_transit : removal_comes (bus 0x1234) (known_after (removed ++ sends ∷ [])) 64 ≡ true
unfolding moments after_all lines.after lines.answer lines.takes_slot teis.course teis.refusal terminals.course exchanged read_by reading header_of control_of unnumbered_of
removal_in_transit = refl

given_up : given_to (bus 0x1234) (known_after (removed ++ sends ∷ receives ∷ [])) ≡ []
unfolding moments after_all lines.after lines.answer lines.takes_slot teis.course teis.refusal terminals.course exchanged read_by reading header_of control_of unnumbered_of
given_up = refl

-- It is lost, given up as the line is down, or never owed, as T201 runs out twice: each time the terminal keeps the TEI.
is_lost : (known_after (removed ++ sends ∷ loses ∷ [])).missed ≡ first ∷ []
unfolding moments after_all lines.after lines.answer lines.takes_slot teis.course teis.refusal terminals.course exchanged read_by reading header_of control_of unnumbered_of
is_lost = refl

kept_on : given_to (bus 0x1234) (known_after (removed ++ sends ∷ loses ∷ [])) ≡ first ∷ []
unfolding moments after_all lines.after lines.answer lines.takes_slot teis.course teis.refusal terminals.course exchanged read_by reading header_of control_of unnumbered_of
kept_on = refl

is_withdrawn : (known_after (removed ++ network (on_0 Down) ∷ [])).missed ≡ first ∷ []
unfolding moments after_all lines.after lines.answer lines.takes_slot teis.course teis.refusal terminals.course exchanged read_by reading header_of control_of unnumbered_of
is_withdrawn = refl

abbrev expires : Step
expires = network (at 0 (expiry T201))

abbrev unanswered : List Step
unanswered = assigned ++ network (on_0 (Check 64)) ∷ expires ∷ expires ∷ []

never_sent : (known_after unanswered).missed ≡ first ∷ []
unfolding moments after_all lines.after lines.answer lines.takes_slot teis.course teis.refusal terminals.course exchanged read_by reading header_of control_of unnumbered_of
never_sent = refl

-- The same assignment is made anew, so it misses none.
abbrev anew : List Step
anew = removed ++ sends ∷ loses ∷ request_comes 0x12 0x34 ∷ []

anew_misses_none : (known_after anew).missed ≡ []
unfolding moments after_all lines.after lines.answer lines.takes_slot teis.course teis.refusal terminals.course exchanged read_by reading header_of control_of unnumbered_of
anew_misses_none = refl

-- Another terminal with the same seed asks by the same number: one answer is for both, and both have TEI 64 by 0x1234.
abbrev same_seed : List Step
same_seed = asks ∷ request_comes 0x12 0x34 ∷ sends ∷ loses ∷ request_comes 0x12 0x34 ∷ sends ∷ receives ∷ []

abbrev both_heard : List Step
both_heard = asks ∷ request_comes 0x12 0x34 ∷ sends ∷ receives ∷ request_comes 0x12 0x34 ∷ sends ∷ loses ∷ []

same_network : (known_after same_seed).at_network ≡ (known_after both_heard).at_network
unfolding moments after_all lines.after lines.answer lines.takes_slot teis.course teis.refusal terminals.course exchanged read_by reading header_of control_of unnumbered_of
same_network = refl

both_have_it : given_to (bus 0x1234) (known_after same_seed) ++ given_to (bus 0x1234) (known_after both_heard) ≡ first ∷ first ∷ []
unfolding moments after_all lines.after lines.answer lines.takes_slot teis.course teis.refusal terminals.course exchanged read_by reading header_of control_of unnumbered_of
both_have_it = refl

-- The removal is lost for the first, and TEI 64 is then assigned to another, by 0x4321. The first misses that assignment, too.
abbrev second : Remembered
second = record { ri = 0x4321; tei = 64 }

abbrev of_first : List Step
of_first = assigned ++ network (on_0 (Remove 64)) ∷ sends ∷ loses ∷ request_comes 0x43 0x21 ∷ sends ∷ loses ∷ []

abbrev of_second : List Step
of_second = request_comes 0x12 0x34 ∷ sends ∷ network (on_0 (Remove 64)) ∷ sends ∷ request_comes 0x43 0x21 ∷ sends ∷ asks ∷ receives ∷ receives ∷ receives ∷ []

one_network : (known_after of_first).at_network ≡ (past_of (bus 0x4321) of_second).at_network
unfolding moments after_all lines.after lines.answer lines.takes_slot teis.course teis.refusal terminals.course exchanged read_by reading header_of control_of unnumbered_of
one_network = refl

one_tei : given_to (bus 0x1234) (known_after of_first) ++ given_to (bus 0x4321) (past_of (bus 0x4321) of_second) ≡ first ∷ second ∷ []
unfolding moments after_all lines.after lines.answer lines.takes_slot teis.course teis.refusal terminals.course exchanged read_by reading header_of control_of unnumbered_of
one_tei = refl

first_missed_it : (known_after of_first).missed ≡ first ∷ []
unfolding moments after_all lines.after lines.answer lines.takes_slot teis.course teis.refusal terminals.course exchanged read_by reading header_of control_of unnumbered_of
first_missed_it = refl

-- So the first is older, unless the network makes it anew.
first_is_older : is_older first second (network_of (bus 0x1234) (known_after of_first)).made ≡ true
unfolding moments after_all lines.after lines.answer lines.takes_slot teis.course teis.refusal terminals.course exchanged read_by reading header_of control_of unnumbered_of
first_is_older = refl

second_is_older : is_older second first (first ∷ second ∷ first ∷ []) ≡ true
second_is_older = refl

first_is_not : is_older first second (first ∷ second ∷ first ∷ []) ≡ false
first_is_not = refl

-- The removal may be lost after TEI 64 is assigned anew. The later assignment misses none, as it holds.
abbrev late : List Step
late = assigned ++ network (on_0 (Remove 64)) ∷ sends ∷ request_comes 0x43 0x21 ∷ sends ∷ loses ∷ loses ∷ []

later_misses_none : (known_after late).missed ≡ first ∷ []
unfolding moments after_all lines.after lines.answer lines.takes_slot teis.course teis.refusal terminals.course exchanged read_by reading header_of control_of unnumbered_of
later_misses_none = refl

later_holds : (network_of (bus 0x1234) (known_after late)).hold ≡ second ∷ []
unfolding moments after_all lines.after lines.answer lines.takes_slot teis.course teis.refusal terminals.course exchanged read_by reading header_of control_of unnumbered_of
later_holds = refl

-- By annex B no number is remembered, but what is made is made by its message. A number that comes again makes another assignment.
abbrev annex_b : Bus
annex_b = record (bus 0x1234) { network = record usual { reading = AnnexB } }

holds_by_annex_b : (network_of annex_b (past_of annex_b assigned)).hold ≡ first ∷ []
unfolding moments after_all lines.after lines.answer lines.takes_slot teis.course teis.refusal terminals.course exchanged read_by reading header_of control_of unnumbered_of
holds_by_annex_b = refl

makes_another : (network_of annex_b (past_of annex_b (assigned ++ request_comes 0x12 0x34 ∷ []))).hold ≡ first ∷ record { ri = 0x1234; tei = 65 } ∷ []
unfolding moments after_all lines.after lines.answer lines.takes_slot teis.course teis.refusal terminals.course exchanged read_by reading header_of control_of unnumbered_of
makes_another = refl

-- As T201 runs out twice, the removal is owed, so that the terminal has not missed it.
is_told : (removal_comes annex_b (past_of annex_b unanswered) 64 ≡ true) × ((past_of annex_b unanswered).missed ≡ [])
unfolding moments after_all lines.after lines.answer lines.takes_slot teis.course teis.refusal terminals.course exchanged read_by reading header_of control_of unnumbered_of
is_told = (refl, refl)

can_meet_by_annex_b : CanMeet annex_b
unfolding configs.sapi_fault
can_meet_by_annex_b = record { side = refl; own = refl; network = refl; terminal = refl; number = ltb-true 0 1 refl; line = ltb-true 0 1 refl }

-- So the premises of the laws are met.
premises_of_one : All (IsThere (bus 0x1234)) (removed ++ sends ∷ loses ∷ [])
premises_of_one = are_there 0x1234 (removed ++ sends ∷ loses ∷ []) refl

premises_of_two : All (IsThere (bus 0x1234)) of_first × All (IsThere (bus 0x4321)) of_second
premises_of_two = (are_there 0x1234 of_first refl, are_there 0x4321 of_second refl)
