use Rattle.object_store.specs.Elements.{HasElement, with_element}
use Rattle.object_store.proofs.Settled.{element_settles, body_kept, fits_there, done_there}
use Rattle.object_store.proofs.store.ObjectStore.set_element.Goals as goal

pub invariant_of-self : goal.invariant_of-self
invariant_of-self c =
    let made = rw (← c.self.view_is) at c.requires in
    body_kept (record { objects = c.self.inside.objects.items; limit = c.self.inside.limit }) c.args.o.0 c.index_mut-object.result.now c.put_element.new.body
    c.self.inside.used c.self.invariant made c.index_mut-object.ensures.value
    (element_settles c.put_element.result c.index_mut-object.result.now.body c.put_element.new.body c.args.k c.args.v c.put_element.ensures.fits c.put_element.ensures.done c.put_element.ensures.left)

pub returns-clause-fits : goal.returns-clause-fits
returns-clause-fits c =
    let made = rw (← c.self.view_is) at c.requires in
    rw (← c.self.view_is)
    (fits_there c.put_element.result (record { objects = c.self.inside.objects.items; limit = c.self.inside.limit }) c.args.o c.index_mut-object.result.now
    (λ body. HasElement body c.args.k c.args.v) made c.index_mut-object.ensures.value c.put_element.ensures.fits)

pub returns-clause-done : goal.returns-clause-done
returns-clause-done c =
    let made = rw (← c.self.view_is) at c.requires in
    rw (← c.self.view_is)
    (done_there c.put_element.result (record { objects = c.self.inside.objects.items; limit = c.self.inside.limit }) c.args.o c.index_mut-object.result.now
    c.put_element.new.body (λ body. with_element body c.args.k c.args.v) made c.index_mut-object.ensures.value c.put_element.ensures.done)
