-- Hand-written answers for `Terminal::send`.
use Rattle.lapd_transcript.proofs.Vocabulary.{◌≡◌, [], ◌∷◌, ◌++◌, length, take, ap, arith, subst, sym, ◌∙◌, take-append-drop, HasPut, with_frame}
use Rattle.lapd_transcript.proofs.Sending.{nothing_put, loaded_put, loaded_fits, whole_put, rest_put, rest_stays, sent}
use Rattle.lapd_transcript.proofs.terminal.Terminal.send.Goals as goal

pub give-requires-2 : goal.give-requires-2
give-requires-2 c =
    let parts = c.split_at.ensures in
    let frame : c.split_at.result.0.now ++ c.split_at.result.1.now ≡ c.args.frame.now =
    ap (λ l. l ++ c.split_at.result.1.now) parts.front ∙ ap (λ l. take c.min.result c.args.frame.now ++ l) parts.back ∙ take-append-drop c.min.result c.args.frame.now in
    record {
      room = omega (
        arith,
        c.give.ensures.moved,
        c.args.self.now.few,
        ap length c.new-line.ensures,
        loaded_fits c.give.new.framer.left c.load.new.self.left (c.split_at.result.0.now ++ c.split_at.result.1.now) c.args.frame.now c.load.ensures.left frame c.requires.long,
      );
    }

pub push-requires : goal.push-requires
push-requires c =
    let parts = c.split_at.ensures in
    let frame : c.split_at.result.0.now ++ c.split_at.result.1.now ≡ c.args.frame.now =
    ap (λ l. l ++ c.split_at.result.1.now) parts.front ∙ ap (λ l. take c.min.result c.args.frame.now ++ l) parts.back ∙ take-append-drop c.min.result c.args.frame.now in
    let fits = loaded_fits c.give.new.framer.left c.load.new.self.left (c.split_at.result.0.now ++ c.split_at.result.1.now) c.args.frame.now c.load.ensures.left frame c.requires.long in
    (omega arith, omega (arith, c.give.ensures.moved, c.args.self.now.few, ap length c.new-line.ensures, fits, c.give-2.ensures.moved, c.left.ensures, c.if-left-eq0.false))

pub invariant_of-self-2 : goal.invariant_of-self-2
invariant_of-self-2 c = record {
  room = c.octet.ensures.room ∙ c.give-2.ensures.same ∙ c.load.ensures.room ∙ c.give.ensures.same ∙ c.args.self.now.room;
  few = omega (arith, rest_stays c.give-2.new.framer.left c.octet.new.self.left c.octet.result c.octet.ensures.bits c.give-2.ensures.rest, c.give-2.ensures.rest);
}

pub returns-then-left-eq0 : goal.returns-then-left-eq0
returns-then-left-eq0 c = λ t s.
    let parts = c.split_at.ensures in
    let frame : c.split_at.result.0.now ++ c.split_at.result.1.now ≡ c.args.frame.now =
    ap (λ l. l ++ c.split_at.result.1.now) parts.front ∙ ap (λ l. take c.min.result c.args.frame.now ++ l) parts.back ∙ take-append-drop c.min.result c.args.frame.now in
    let first = c.give.ensures.put s.octets t.items
    (subst (λ l. HasPut c.args.self.now.framer s.octets l t.items) (sym c.new-line.ensures) (nothing_put c.args.self.now.framer t.items s.octets s.stands)) in
    let loaded = c.give-2.ensures.put s.octets (with_frame c.args.frame.now t.items)
    (loaded_put c.give.new.framer c.load.new.self s.octets c.give.new.line.items _ c.args.frame.now t.items frame c.load.ensures.stands first) in
    sent _ c.args.frame.now t s.octets c.give-2.new.line.items s.given c.give-2.ensures.rest
    (whole_put c.give-2.new.framer c.args.frame.now t s.octets c.give-2.new.line.items (omega (arith, c.left.ensures, c.if-left-eq0.true)) loaded)

pub returns : goal.returns
returns c = λ t s.
    let parts = c.split_at.ensures in
    let frame : c.split_at.result.0.now ++ c.split_at.result.1.now ≡ c.args.frame.now =
    ap (λ l. l ++ c.split_at.result.1.now) parts.front ∙ ap (λ l. take c.min.result c.args.frame.now ++ l) parts.back ∙ take-append-drop c.min.result c.args.frame.now in
    let first = c.give.ensures.put s.octets t.items
    (subst (λ l. HasPut c.args.self.now.framer s.octets l t.items) (sym c.new-line.ensures) (nothing_put c.args.self.now.framer t.items s.octets s.stands)) in
    let loaded = c.give-2.ensures.put s.octets (with_frame c.args.frame.now t.items)
    (loaded_put c.give.new.framer c.load.new.self s.octets c.give.new.line.items _ c.args.frame.now t.items frame c.load.ensures.stands first) in
    let all = sent _ c.args.frame.now t s.octets (c.give-2.new.line.items ++ c.octet.result ∷ []) s.given
    (omega (arith, rest_stays c.give-2.new.framer.left c.octet.new.self.left c.octet.result c.octet.ensures.bits c.give-2.ensures.rest, c.give-2.ensures.rest))
    (rest_put c.give-2.new.framer c.octet.new.self c.args.frame.now t s.octets c.give-2.new.line.items c.octet.result c.octet.type_inv (omega (arith, c.left.ensures, c.if-left-eq0.false)) c.give-2.ensures.rest c.octet.ensures.stands loaded) in
    (c.push.ensures.items ∙ all.0, all.1)
