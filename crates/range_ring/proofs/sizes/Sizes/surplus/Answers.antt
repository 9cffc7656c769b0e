use Rattle.std.proofs.Common.{◌≡◌, length, get_or, sym, ap, subst, ◌∙◌, arith}
use Rattle.std.proofs.lemmas.List.{length-drop}
use Rattle.range_ring.proofs.Feeding.{Left, stops, goes_on, ends}
use Rattle.range_ring.proofs.sizes.Sizes.surplus.Goals as goal

pub returns-then-have_room-clause-value : goal.returns-then-have_room-clause-value
returns-then-have_room-clause-value c =
    let counted : c.len-count.result ≡ length c.args.self.now.sizes = c.len-count.ensures ∙ c.self.inside.sizes.ok.0 ∙ ap (λ s. length s.sizes) c.self.view_is in
    stops c.args.limits.now c.args.self.now.sizes c.args.size c.loop-gone.gone c.loop-gone.total _ (omega (arith, length-drop c.loop-gone.gone c.args.self.now.sizes)) c.loop-gone.invariant (sym c.have_room.ensures ∙ c.if-have_room.true)

pub loop-gone-preserved : goal.loop-gone-preserved
loop-gone-preserved c =
    let counted : c.len-count.result ≡ length c.args.self.now.sizes = c.len-count.ensures ∙ c.self.inside.sizes.ok.0 ∙ ap (λ s. length s.sizes) c.self.view_is in
    let here : c.index.result.now ≡ get_or c.args.self.now.sizes c.loop-gone.gone c.index.result.now = subst (λ xs. c.index.result.now ≡ get_or xs c.loop-gone.gone c.index.result.now) (ap (λ s. s.sizes) c.self.view_is) c.index.ensures in
    goes_on c.args.limits.now c.args.self.now.sizes c.args.size c.loop-gone.gone c.loop-gone.total _ c.index.result.now (let t = c.loop-gone-test.true in omega arith) here (omega (arith, length-drop c.loop-gone.gone c.args.self.now.sizes)) c.loop-gone.invariant (sym c.have_room.ensures ∙ c.if-have_room.false)

pub returns-clause-value : goal.returns-clause-value
returns-clause-value c =
    let counted : c.len-count.result ≡ length c.args.self.now.sizes = c.len-count.ensures ∙ c.self.inside.sizes.ok.0 ∙ ap (λ s. length s.sizes) c.self.view_is in
    let done : c.loop-gone.gone ≡ length c.args.self.now.sizes = (let f = c.loop-gone-test.false in let end = c.loop-gone.auto.gone-end in omega arith) in
    counted ∙ ends c.args.limits.now c.args.self.now.sizes c.args.size c.loop-gone.total c.requires.room c.requires.small (subst (λ n. Left c.args.limits.now c.args.self.now.sizes c.args.size n c.loop-gone.total) done c.loop-gone.invariant)
