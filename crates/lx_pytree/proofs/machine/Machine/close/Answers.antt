use Rattle.lx_pytree.proofs.Moves.{closes_top, closes_end, close_last, close_left, close_inner, emptied}
use Rattle.lx_pytree.proofs.machine.Machine.close.Goals as goal

pub returns-then-self-items-clause-top : goal.returns-then-self-items-clause-top
returns-then-self-items-clause-top c = λ t. close_left _ _ _ t (closes_top _) (emptied _ _ _ c.in-None.ensures.cases.0 c.in-None.ensures.rest c.in-None.ensures.items).before c.if-self-items.true

pub returns-then-self-items-clause-end : goal.returns-then-self-items-clause-end
returns-then-self-items-clause-end c = λ e t. close_left _ _ _ t (closes_end _ e) (emptied _ _ _ c.in-None.ensures.cases.0 c.in-None.ensures.rest c.in-None.ensures.items).before c.if-self-items.true

pub returns-in-Ok-clause-top : goal.returns-in-Ok-clause-top
returns-in-Ok-clause-top c = close_last _ _ _ _ _ _ _ (closes_top _) (emptied _ _ _ c.in-None.ensures.cases.0 c.in-None.ensures.rest c.in-None.ensures.items).before c.if-self-items.false c.rule_of.ensures c.replace-parts.ensures.value c.in-Ok.ensures c.requires

pub returns-in-Ok-clause-end : goal.returns-in-Ok-clause-end
returns-in-Ok-clause-end c = λ e. close_last _ _ _ _ _ _ _ (closes_end _ e) (emptied _ _ _ c.in-None.ensures.cases.0 c.in-None.ensures.rest c.in-None.ensures.items).before c.if-self-items.false c.rule_of.ensures c.replace-parts.ensures.value c.in-Ok.ensures c.requires

pub returns-in-Ok-push-clause-top : goal.returns-in-Ok-push-clause-top
returns-in-Ok-push-clause-top c = close_inner _ c.args.self.now _ _ c.replace-inner.new.dest c.in-Some.outer c.replace-inner.result _ c.push.new.self _ _ (closes_top _) c.in-Some.ensures.items c.replace-inner.ensures.after c.replace-inner.ensures.value c.rule_of-in-Some.ensures c.in-Ok-closed.ensures c.in-Ok-push.ensures.ok c.requires

pub returns-in-Ok-push-clause-end : goal.returns-in-Ok-push-clause-end
returns-in-Ok-push-clause-end c = λ e. close_inner _ c.args.self.now _ _ c.replace-inner.new.dest c.in-Some.outer c.replace-inner.result _ c.push.new.self _ _ (closes_end _ e) c.in-Some.ensures.items c.replace-inner.ensures.after c.replace-inner.ensures.value c.rule_of-in-Some.ensures c.in-Ok-closed.ensures c.in-Ok-push.ensures.ok c.requires
