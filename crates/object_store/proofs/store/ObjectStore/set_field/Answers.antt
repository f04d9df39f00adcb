use Rattle.object_store.specs.Elements.{HasField, with_field}
use Rattle.object_store.proofs.Settled.{field_settles, body_kept, fits_there, done_there}
use Rattle.object_store.proofs.store.ObjectStore.set_field.Goals as goal

pub invariant_of-self : goal.invariant_of-self
invariant_of-self c =
    let made = rw (← c.self.view_is) at c.requires in
    body_kept (record { objects = c.self.inside.objects.items; limit = c.self.inside.limit }) c.args.o.0 c.index_mut-object.result.now c.put_field.new.body
    c.self.inside.used c.self.invariant made c.index_mut-object.ensures.value
    (field_settles c.put_field.result c.index_mut-object.result.now.body c.put_field.new.body c.args.k c.args.v c.put_field.ensures.fits c.put_field.ensures.done c.put_field.ensures.left)

pub returns-clause-fits : goal.returns-clause-fits
returns-clause-fits c =
    let made = rw (← c.self.view_is) at c.requires in
    rw (← c.self.view_is)
    (fits_there c.put_field.result (record { objects = c.self.inside.objects.items; limit = c.self.inside.limit }) c.args.o c.index_mut-object.result.now
    (λ body. HasField body c.args.k c.args.v) made c.index_mut-object.ensures.value c.put_field.ensures.fits)

pub returns-clause-done : goal.returns-clause-done
returns-clause-done c =
    let made = rw (← c.self.view_is) at c.requires in
    rw (← c.self.view_is)
    (done_there c.put_field.result (record { objects = c.self.inside.objects.items; limit = c.self.inside.limit }) c.args.o c.index_mut-object.result.now
    c.put_field.new.body (λ body. with_field body c.args.k c.args.v) made c.index_mut-object.ensures.value c.put_field.ensures.done)
