-- Hand-written answers for `Player::obey`.
use Rattle.lapd_sim.proofs.Vocabulary.{◌≡◌, ◌∙◌, Ok, length, sym, subst, arith, take_at, meant, read}
use Rattle.lapd_sim.proofs.Playing.{starts, goes}
use Rattle.lapd_sim.proofs.player.Player.obey.Goals as goal

pub returns-in_ok-self-in-None : goal.returns-in_ok-self-in-None
returns-in_ok-self-in-None g c = λ m h.
    starts c.args.self.now.setup c.in_ok-self-in-None.field-0 _ (meant c.read_line.new.room c.in-Ok.command) c.args.line.now m c.in-None.is h c.in-Ok.ensures.read
    (c.in_ok-self-in-None.ensures c.read_line.new.room)

-- the octets stand where the line was read into
pub returns-in-Some : goal.returns-in-Some
returns-in-Some g c = λ m h.
    let room = c.as_mut_slice-in-Some.result.now in
    let len : length c.read_line.new.room ≡ c.args.self.now.octets.len = omega (arith, c.read_line.auto.room, c.as_mut_slice.ensures.len) in
    let same : room ≡ c.read_line.new.room = c.as_mut_slice-in-Some.ensures.value ∙ take_at c.read_line.new.room _ c.args.self.now.octets.len len in
    let is : Ok (meant room c.in-Ok.command) ≡ read c.args.line.now = subst (λ octets. Ok (meant octets c.in-Ok.command) ≡ read c.args.line.now) (sym same) c.in-Ok.ensures.read in
    goes c.args.self.now.setup c.in-Some.setup c.obey.new.self c.obey.result _ _ (meant room c.in-Ok.command) c.args.line.now m c.in-Some.is h is c.obey.ensures
