-- Hand-written answers for `ScriptLines::line_feed`.
use Rattle.lapd_script.proofs.Vocabulary.{◌≡◌, List, None, Some, ℕ, arith, subst, sym, ◌∙◌, position}
use Rattle.lapd_script.proofs.Reading.{is_line_feed, line_feed_at, line_feed_first, no_line_feed, part}
use Rattle.lapd_script.proofs.lines.ScriptLines.line_feed.Goals as goal

pub returns-in-None-clause-none : goal.returns-in-None-clause-none
returns-in-None-clause-none c =
    let lines = c.args.self.now in
    no_line_feed c.args.unsought lines.filled lines.buffer.items c.requires (omega (arith, lines.buffer.ok.0))
    (subst (λ (octets : List ℕ). None ≡ position is_line_feed (part c.args.unsought lines.filled octets)) c.deref.ensures.value (sym c.in-None.is ∙ c.place_of.ensures))

pub returns-in-Some-clause-found : goal.returns-in-Some-clause-found
returns-in-Some-clause-found c =
    let lines = c.args.self.now in
    line_feed_at c.args.unsought lines.filled c.in-Some.place lines.buffer.items c.requires (omega (arith, lines.buffer.ok.0))
    (subst (λ (octets : List ℕ). Some c.in-Some.place ≡ position is_line_feed (part c.args.unsought lines.filled octets)) c.deref.ensures.value (sym c.in-Some.is ∙ c.place_of.ensures))

pub returns-in-Some-clause-first : goal.returns-in-Some-clause-first
returns-in-Some-clause-first c =
    let lines = c.args.self.now in
    line_feed_first c.args.unsought lines.filled c.in-Some.place lines.buffer.items c.requires (omega (arith, lines.buffer.ok.0))
    (subst (λ (octets : List ℕ). Some c.in-Some.place ≡ position is_line_feed (part c.args.unsought lines.filled octets)) c.deref.ensures.value (sym c.in-Some.is ∙ c.place_of.ensures))
