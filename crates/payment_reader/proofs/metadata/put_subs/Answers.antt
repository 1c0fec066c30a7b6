use Rattle.std.specs.Map.Iter.{deref_pair}
use Rattle.std.proofs.lemmas.Map.Iter.{rest_more, rest_all}
use Rattle.std.proofs.lemmas.Result.{err_from_is_err_and}
use Rattle.serde_json.specs.View.{members_view}
use Rattle.payment_reader.specs.Reading.{sub_put, subs_put}
use Rattle.payment_reader.proofs.Members.{put_more, put_stops, put_ends}
use Rattle.payment_reader.proofs.metadata.put_subs.Goals as goal

pub loop-name-preserved : goal.loop-name-preserved
loop-name-preserved c =
    put_more (sub_put c.args.table.now c.args.key c.args.path.now) c.loop-name.name-iterator c.next.new.self c.in-Some.name.now c.in-Some.value.now c.loop-name.payment c.put_sub.new.payment (subs_put c.args.table.now c.args.key c.args.path.now (members_view c.args.members.now.entries) c.args.payment.now)
    (rest_more deref_pair c.loop-name.name-iterator c.next.new.self c.next.result (c.in-Some.name, c.in-Some.value) c.in-Some.is c.next.ensures.steps)
    (rw (← c.as_str.ensures.value) c.in_ok-put_sub.ensures) c.loop-name.invariant

pub returns-in_err-put_sub : goal.returns-in_err-put_sub
returns-in_err-put_sub c =
    let p = err_from_is_err_and c.from_residual.result c.from_residual.ensures.1 in
    rw (p.1, p.2) (put_stops c.in_err-put_sub.field-0.0 (sub_put c.args.table.now c.args.key c.args.path.now) c.loop-name.name-iterator c.next.new.self c.in-Some.name.now c.in-Some.value.now c.loop-name.payment (subs_put c.args.table.now c.args.key c.args.path.now (members_view c.args.members.now.entries) c.args.payment.now)
    (rest_more deref_pair c.loop-name.name-iterator c.next.new.self c.next.result (c.in-Some.name, c.in-Some.value) c.in-Some.is c.next.ensures.steps)
    (rw (← c.as_str.ensures.value) c.in_err-put_sub.ensures) c.loop-name.invariant)

pub returns : goal.returns
returns c =
    put_ends (sub_put c.args.table.now c.args.key c.args.path.now) c.loop-name.name-iterator c.loop-name.payment (subs_put c.args.table.now c.args.key c.args.path.now (members_view c.args.members.now.entries) c.args.payment.now)
    (rest_all deref_pair c.loop-name.name-iterator c.next.new.self c.next.result c.in-None.is c.next.ensures.steps) c.loop-name.invariant
