-- Hand-written answers for `Page::put`.
use Rattle.lapd_transcript.proofs.Vocabulary.{◌++◌, ℕ, List, ap, sym, subst, ◌∙◌, IsWritten, IsBroken, IsPut, Puts, on}
use Rattle.lapd_transcript.proofs.Known.{leaves, puts_out, puts_behind, puts_stuck, ok_gives, err_gives}
use Rattle.lapd_transcript.proofs.output.Page.put.Goals as goal

pub returns-in_err-write : goal.returns-in_err-write
returns-in_err-write g c =
    let same = c.as_slice.ensures.value ∙ ap (λ page. page.items) (err_gives c.try_extend_from_slice.result c.if-is_ok.ensures.value c.try_extend_from_slice.ensures.err) in
    leaves c.from_residual.result _ _ _ c.from_residual.ensures.0
    (puts_stuck (g.T.Target.taken c.args.self.now.target.now) (g.T.Target.taken c.write.new.self) c.args.self.now.text.items c.args.piece.now c.args.self.now.target.ghost_name c.try_extend_from_slice.new.self.items
    (subst (λ (text : List ℕ). IsBroken (g.T.Target.taken c.args.self.now.target.now) (g.T.Target.taken c.write.new.self) text) same c.in_err-write.ensures))

-- the piece stands alone on the page
pub returns-then-is_ok-2 : goal.returns-then-is_ok-2
returns-then-is_ok-2 g c =
    let same = c.as_slice.ensures.value ∙ ap (λ page. page.items) (err_gives c.try_extend_from_slice.result c.if-is_ok.ensures.value c.try_extend_from_slice.ensures.err) in
    let alone = ok_gives c.try_extend_from_slice-2.result (sym c.if-is_ok-2.ensures.value) c.try_extend_from_slice-2.ensures.ok ∙ ap (λ page. page ++ c.args.piece.now) c.clear.ensures in
    subst (λ (next : List ℕ). IsPut (on g.T.Target.taken c.args.self.now) (record { taken = g.T.Target.taken c.write.new.self; page = next; name = c.args.self.now.target.ghost_name }) c.args.piece.now) (sym alone)
    (puts_behind (g.T.Target.taken c.args.self.now.target.now) (g.T.Target.taken c.write.new.self) c.args.self.now.text.items c.args.piece.now c.args.self.now.target.ghost_name
    (subst (λ (text : List ℕ). IsWritten (g.T.Target.taken c.args.self.now.target.now) (g.T.Target.taken c.write.new.self) text) same c.in_ok-write.ensures))

pub returns : goal.returns
returns g c =
    let same = c.as_slice.ensures.value ∙ ap (λ page. page.items) (err_gives c.try_extend_from_slice.result c.if-is_ok.ensures.value c.try_extend_from_slice.ensures.err) in
    let empty = ap (λ page. page.items) (err_gives c.try_extend_from_slice-2.result c.if-is_ok-2.ensures.value c.try_extend_from_slice-2.ensures.err) ∙ c.clear.ensures in
    subst (λ (next : List ℕ). Puts c.write-2.result (on g.T.Target.taken c.args.self.now) (record { taken = g.T.Target.taken c.write-2.new.self; page = next; name = c.args.self.now.target.ghost_name }) c.args.piece.now) (sym empty)
    (puts_out (g.T.Target.taken c.args.self.now.target.now) (g.T.Target.taken c.write.new.self) c.args.self.now.text.items c.args.piece.now c.args.self.now.target.ghost_name c.write-2.result (g.T.Target.taken c.write-2.new.self)
    (subst (λ (text : List ℕ). IsWritten (g.T.Target.taken c.args.self.now.target.now) (g.T.Target.taken c.write.new.self) text) same c.in_ok-write.ensures) c.write-2.ensures)
