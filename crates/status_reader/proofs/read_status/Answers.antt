-- `status_reader::read_status` meets its contract. Assumes nothing.
use mathlib.Core.Path.{sym, ◌∙◌}
use borrow.Author.Rules.{rules}
use Rattle.std.proofs.lemmas.Result.{err_from_is_err_and}
use Rattle.format.specs.Sheet.{id_values}
use Rattle.status.specs.Lines.{entries, ids_entry, set_entry, flag_entry}
use Rattle.status_reader.specs.Inside.{one}
use Rattle.status_reader.proofs.PlaceLaws.{reached, reached_more, reached_fault, reached_further, reached_end}
use Rattle.status_reader.proofs.read_status.Goals as goal

pub returns-in_err-uids : goal.returns-in_err-uids
unfolding entries
returns-in_err-uids c =
    let p = err_from_is_err_and c.from_residual.result c.from_residual.ensures.1 in
    let r0 = reached c.args.text.now c.start-place.result.rest.now c.start-place.result.passed c.start-place.ensures.0 c.start-place.ensures.1 in
    rw (p.1, p.2) (reached_fault ids_entry r0 id_values c.in_err-uids.field-0.0 _ _ (c.in_err-uids.ensures ids_entry id_values (λ l r k. rw (← k.shows) (search rules)) _))

pub returns-in_err-inheritable : goal.returns-in_err-inheritable
unfolding entries
returns-in_err-inheritable c =
    let p = err_from_is_err_and c.from_residual-in_err-inheritable.result c.from_residual-in_err-inheritable.ensures.1 in
    let r0 = reached c.args.text.now c.start-place.result.rest.now c.start-place.result.passed c.start-place.ensures.0 c.start-place.ensures.1 in
    let r1 = reached_more ids_entry r0 (id_values c.in_ok-uids.uids) _ _ (c.in_ok-uids.ensures ids_entry id_values (λ l r k. rw (← k.shows) (search rules)) _) in
    rw (p.1, p.2) (reached_fault (set_entry "CapInh:") r1 one c.in_err-inheritable.field-0.0 _ _ (c.in_err-inheritable.ensures _))

pub returns-in_err-permitted : goal.returns-in_err-permitted
unfolding entries
returns-in_err-permitted c =
    let p = err_from_is_err_and c.from_residual-in_err-permitted.result c.from_residual-in_err-permitted.ensures.1 in
    let r0 = reached c.args.text.now c.start-place.result.rest.now c.start-place.result.passed c.start-place.ensures.0 c.start-place.ensures.1 in
    let r1 = reached_more ids_entry r0 (id_values c.in_ok-uids.uids) _ _ (c.in_ok-uids.ensures ids_entry id_values (λ l r k. rw (← k.shows) (search rules)) _) in
    let r2 = reached_more (set_entry "CapInh:") r1 (one c.in_ok-inheritable.inheritable) _ _ (c.in_ok-inheritable.ensures _) in
    rw (p.1, p.2) (reached_fault (set_entry "CapPrm:") r2 one c.in_err-permitted.field-0.0 _ _ (c.in_err-permitted.ensures _))

pub returns-in_err-effective : goal.returns-in_err-effective
unfolding entries
returns-in_err-effective c =
    let p = err_from_is_err_and c.from_residual-in_err-effective.result c.from_residual-in_err-effective.ensures.1 in
    let r0 = reached c.args.text.now c.start-place.result.rest.now c.start-place.result.passed c.start-place.ensures.0 c.start-place.ensures.1 in
    let r1 = reached_more ids_entry r0 (id_values c.in_ok-uids.uids) _ _ (c.in_ok-uids.ensures ids_entry id_values (λ l r k. rw (← k.shows) (search rules)) _) in
    let r2 = reached_more (set_entry "CapInh:") r1 (one c.in_ok-inheritable.inheritable) _ _ (c.in_ok-inheritable.ensures _) in
    let r3 = reached_more (set_entry "CapPrm:") r2 (one c.in_ok-permitted.permitted) _ _ (c.in_ok-permitted.ensures _) in
    rw (p.1, p.2) (reached_fault (set_entry "CapEff:") r3 one c.in_err-effective.field-0.0 _ _ (c.in_err-effective.ensures _))

pub returns-in_err-bounding : goal.returns-in_err-bounding
unfolding entries
returns-in_err-bounding c =
    let p = err_from_is_err_and c.from_residual-in_err-bounding.result c.from_residual-in_err-bounding.ensures.1 in
    let r0 = reached c.args.text.now c.start-place.result.rest.now c.start-place.result.passed c.start-place.ensures.0 c.start-place.ensures.1 in
    let r1 = reached_more ids_entry r0 (id_values c.in_ok-uids.uids) _ _ (c.in_ok-uids.ensures ids_entry id_values (λ l r k. rw (← k.shows) (search rules)) _) in
    let r2 = reached_more (set_entry "CapInh:") r1 (one c.in_ok-inheritable.inheritable) _ _ (c.in_ok-inheritable.ensures _) in
    let r3 = reached_more (set_entry "CapPrm:") r2 (one c.in_ok-permitted.permitted) _ _ (c.in_ok-permitted.ensures _) in
    let r4 = reached_more (set_entry "CapEff:") r3 (one c.in_ok-effective.effective) _ _ (c.in_ok-effective.ensures _) in
    rw (p.1, p.2) (reached_fault (set_entry "CapBnd:") r4 one c.in_err-bounding.field-0.0 _ _ (c.in_err-bounding.ensures _))

pub returns-in_err-ambient : goal.returns-in_err-ambient
unfolding entries
returns-in_err-ambient c =
    let p = err_from_is_err_and c.from_residual-in_err-ambient.result c.from_residual-in_err-ambient.ensures.1 in
    let r0 = reached c.args.text.now c.start-place.result.rest.now c.start-place.result.passed c.start-place.ensures.0 c.start-place.ensures.1 in
    let r1 = reached_more ids_entry r0 (id_values c.in_ok-uids.uids) _ _ (c.in_ok-uids.ensures ids_entry id_values (λ l r k. rw (← k.shows) (search rules)) _) in
    let r2 = reached_more (set_entry "CapInh:") r1 (one c.in_ok-inheritable.inheritable) _ _ (c.in_ok-inheritable.ensures _) in
    let r3 = reached_more (set_entry "CapPrm:") r2 (one c.in_ok-permitted.permitted) _ _ (c.in_ok-permitted.ensures _) in
    let r4 = reached_more (set_entry "CapEff:") r3 (one c.in_ok-effective.effective) _ _ (c.in_ok-effective.ensures _) in
    let r5 = reached_more (set_entry "CapBnd:") r4 (one c.in_ok-bounding.bounding) _ _ (c.in_ok-bounding.ensures _) in
    rw (p.1, p.2) (reached_fault (set_entry "CapAmb:") r5 one c.in_err-ambient.field-0.0 _ _ (c.in_err-ambient.ensures _))

pub returns-in_err-nnp : goal.returns-in_err-nnp
unfolding entries
returns-in_err-nnp c =
    let p = err_from_is_err_and c.from_residual-in_err-nnp.result c.from_residual-in_err-nnp.ensures.1 in
    let r0 = reached c.args.text.now c.start-place.result.rest.now c.start-place.result.passed c.start-place.ensures.0 c.start-place.ensures.1 in
    let r1 = reached_more ids_entry r0 (id_values c.in_ok-uids.uids) _ _ (c.in_ok-uids.ensures ids_entry id_values (λ l r k. rw (← k.shows) (search rules)) _) in
    let r2 = reached_more (set_entry "CapInh:") r1 (one c.in_ok-inheritable.inheritable) _ _ (c.in_ok-inheritable.ensures _) in
    let r3 = reached_more (set_entry "CapPrm:") r2 (one c.in_ok-permitted.permitted) _ _ (c.in_ok-permitted.ensures _) in
    let r4 = reached_more (set_entry "CapEff:") r3 (one c.in_ok-effective.effective) _ _ (c.in_ok-effective.ensures _) in
    let r5 = reached_more (set_entry "CapBnd:") r4 (one c.in_ok-bounding.bounding) _ _ (c.in_ok-bounding.ensures _) in
    let r6 = reached_more (set_entry "CapAmb:") r5 (one c.in_ok-ambient.ambient) _ _ (c.in_ok-ambient.ensures _) in
    rw (p.1, p.2) (reached_fault flag_entry r6 one c.in_err-nnp.field-0.0 _ _ (c.in_err-nnp.ensures flag_entry one (λ l r k. rw (← k.shows) (search rules)) _))

pub returns-then-is_some : goal.returns-then-is_some
unfolding entries
returns-then-is_some c =
    let r0 = reached c.args.text.now c.start-place.result.rest.now c.start-place.result.passed c.start-place.ensures.0 c.start-place.ensures.1 in
    let r1 = reached_more ids_entry r0 (id_values c.in_ok-uids.uids) _ _ (c.in_ok-uids.ensures ids_entry id_values (λ l r k. rw (← k.shows) (search rules)) _) in
    let r2 = reached_more (set_entry "CapInh:") r1 (one c.in_ok-inheritable.inheritable) _ _ (c.in_ok-inheritable.ensures _) in
    let r3 = reached_more (set_entry "CapPrm:") r2 (one c.in_ok-permitted.permitted) _ _ (c.in_ok-permitted.ensures _) in
    let r4 = reached_more (set_entry "CapEff:") r3 (one c.in_ok-effective.effective) _ _ (c.in_ok-effective.ensures _) in
    let r5 = reached_more (set_entry "CapBnd:") r4 (one c.in_ok-bounding.bounding) _ _ (c.in_ok-bounding.ensures _) in
    let r6 = reached_more (set_entry "CapAmb:") r5 (one c.in_ok-ambient.ambient) _ _ (c.in_ok-ambient.ensures _) in
    let r7 = reached_more flag_entry r6 (one c.in_ok-nnp.nnp) _ _ (c.in_ok-nnp.ensures flag_entry one (λ l r k. rw (← k.shows) (search rules)) _) in
    reached_further _ _ c.next_wanted.result r7 c.next_wanted.ensures (sym c.is_some.ensures ∙ c.if-is_some.true)

pub returns : goal.returns
unfolding entries
returns c =
    let r0 = reached c.args.text.now c.start-place.result.rest.now c.start-place.result.passed c.start-place.ensures.0 c.start-place.ensures.1 in
    let r1 = reached_more ids_entry r0 (id_values c.in_ok-uids.uids) _ _ (c.in_ok-uids.ensures ids_entry id_values (λ l r k. rw (← k.shows) (search rules)) _) in
    let r2 = reached_more (set_entry "CapInh:") r1 (one c.in_ok-inheritable.inheritable) _ _ (c.in_ok-inheritable.ensures _) in
    let r3 = reached_more (set_entry "CapPrm:") r2 (one c.in_ok-permitted.permitted) _ _ (c.in_ok-permitted.ensures _) in
    let r4 = reached_more (set_entry "CapEff:") r3 (one c.in_ok-effective.effective) _ _ (c.in_ok-effective.ensures _) in
    let r5 = reached_more (set_entry "CapBnd:") r4 (one c.in_ok-bounding.bounding) _ _ (c.in_ok-bounding.ensures _) in
    let r6 = reached_more (set_entry "CapAmb:") r5 (one c.in_ok-ambient.ambient) _ _ (c.in_ok-ambient.ensures _) in
    let r7 = reached_more flag_entry r6 (one c.in_ok-nnp.nnp) _ _ (c.in_ok-nnp.ensures flag_entry one (λ l r k. rw (← k.shows) (search rules)) _) in
    reached_end _ _ c.next_wanted.result r7 c.next_wanted.ensures (sym c.is_some.ensures ∙ c.if-is_some.false)
