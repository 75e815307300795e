-- A sound line holds at most so many octets, and at most N201 octets in each slot.
use Rattle.model_line.proofs.Vocabulary.{ℕ, zero, suc, ◌+◌, ◌*◌, ◌≤◌, ◌<◌, Bool, true, false, cond, ap, List, length, arith, sum_by, All, range_with_len, All-drop, sum_by-le, sum_by-cons, Network, queue_of, IsWaitingFrame, ControlFrame, Terms, Config, Line, link_count, service_at, terms, link_at, is_terminal, terminal_in, IsOfSide, IsSound, held_by_link, held_in, slots_by_link, slots_of}
use Rattle.model_line.proofs.Vocabulary.{total_length, unit_length, octets_by_link, stored_in}
use Rattle.model_line.proofs.Vocabulary.{rises_held}
use Rattle.lapd_frame.specs.Grammar.{spelling}
use Rattle.model_link.specs.Link.{frame_of}
use Rattle.model_teis.proofs.OfNetwork.LawLemmas.{held-few}
use Rattle.model_teis.specs.network.Machine.{held}
use Rattle.model_teis.specs.terminal.Machine as terminals
use Rattle.model_teis.proofs.OfTerminal.SoundWords.{room}
use Rattle.model_line.specs.Stored.{held_most, octets_of}
use Rattle.model_line.proofs.Checks.{nothing-held, unused-none}
use Rattle.model_line.proofs.Numbers.{sum_bounded}
use Rattle.model_line.proofs.SoundParts.{any_link}

-- of the control frames of a link
ring_few : (t : Terms) (most : ℕ) (ws : List ControlFrame) → All (IsWaitingFrame t) ws → length ws ≤ most
    → sum_by (λ f. length (spelling Network (frame_of t f))) ws ≤ 4 * most
ring_few t most ws frames few = omega (arith, (sum_by-le (λ f. length (spelling Network (frame_of t f))) 4 ws (λ k d within. (frames k d within).octets)), few)

link_few : (c : Config) (l : Line) → IsSound c l → (n : ℕ) → n < link_count c → held_by_link c l n ≤ 4 * c.control
link_few c l s n few =
    any_link c l s n few (λ t x. rises_held t x ≤ 4 * c.control) (omega arith)
    (λ tei at sound. ring_few (terms c (service_at n) tei) c.control (link_at n l).waiting sound.frames sound.ring)

-- of messages that wait, of what is remembered, and of checks that are due
pub managed_few : (c : Config) (l : Line) → IsSound c l → held l.management + terminals.held (terminal_in l) ≤ held_most c
managed_few c l s = go (is_terminal c) s.own
  where
    go : (b : Bool) → IsOfSide b l.management l.own → held l.management + terminals.held (terminal_in l) ≤ cond b (8 * (c.terminals + 1)) (32 + 12)
    go true own = omega (arith, ap length own.1.waiting, ap length own.1.remembered, nothing-held l.management (unused-none l.management own.1), room (terminal_in l) own.0, s.places)
    go false own = omega (arith, ap length own.1, held-few l.management s.management)

pub held_few : (c : Config) (l : Line) → IsSound c l → held_in c l ≤ 8 * c.control * c.terminals + held_most c
held_few c l s =
    omega (arith, managed_few c l s, (sum_bounded (held_by_link c l) 0 (link_count c) (4 * c.control) (λ n few. link_few c l s n (omega (arith, few)))))

-- ---- contents

-- a sum of terms that are each at most m times others
scaled : (f g : ℕ → ℕ) (m a n : ℕ) → ((j : ℕ) → j < a + n → f j ≤ g j * m) → sum_by f (range_with_len a n) ≤ sum_by g (range_with_len a n) * m
scaled f g m a zero below = omega arith
scaled f g m a (suc n) below =
    let rest = scaled f g m (a + 1) n (λ j few. below j (omega (arith, few))) in
    rw (sum_by-cons f a (range_with_len (a + 1) n), sum_by-cons g a (range_with_len (a + 1) n)) (omega (arith, (below a (omega arith)), rest))

queue_octets : (c : Config) (l : Line) → IsSound c l → (n : ℕ) → n < link_count c → octets_by_link l n ≤ slots_by_link l n * c.n201
queue_octets c l s n few =
    any_link c l s n few (λ t x. total_length (queue_of x) ≤ length (queue_of x) * c.n201) (omega arith)
    (λ tei at sound.
    sum_by-le length c.n201 (queue_of (link_at n l))
    (All-drop (λ octets. length octets ≤ c.n201) (link_at n l).a (link_at n l).contents sound.sizes))

pub octets_few : (c : Config) (l : Line) → IsSound c l → octets_of c l ≤ slots_of c l * c.n201
octets_few c l s =
    let queues = scaled (octets_by_link l) (slots_by_link l) c.n201 0 (link_count c) (λ n few. queue_octets c l s n (omega (arith, few))) in
    omega (arith, sum_by-le unit_length c.n201 l.units (λ k d within. (s.units k d within).size), queues)

pub stored_few : (c : Config) (l : Line) → IsSound c l
    → stored_in c l ≤ (8 * c.control * c.terminals + held_most c) + slots_of c l * c.n201
stored_few c l s = omega (arith, held_few c l s, octets_few c l s)
