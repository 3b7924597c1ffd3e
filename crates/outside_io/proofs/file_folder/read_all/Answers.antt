-- What was taken where there is no memory for the bytes that came.
use Rattle.std.proofs.Common.{ℕ, ◌≤◌, ◌+◌, List, ◌++◌, length, take, arith, append_assoc, length-append, ap, sym, ◌∙◌}
use Rattle.std.proofs.lemmas.List.{length-take}
use Rattle.std.specs.Prelude.{None, Some}
use Rattle.std.specs.declared.option.Option.{Option}
use Rattle.std.specs.Io.KnownBytes.{Consumes}
use Rattle.outside_io.proofs.file_folder.read_all.Goals as goal

-- what two reads took, one after the other
consumes_both : (a b c : Option (List ℕ)) (xs ys : List ℕ) → Consumes a b xs → Consumes b c ys → Consumes a c (xs ++ ys)
consumes_both None b c xs ys p q = tt
consumes_both (Some as') None c xs ys p q = absurd p
consumes_both (Some as') (Some bs) None xs ys p q = absurd q
consumes_both (Some as') (Some bs) (Some cs) xs ys p q = p ∙ (ap (λ rest. xs ++ rest) q ∙ sym (append_assoc xs ys cs))

pub returns-in_err-extend_from_slice-clause-taken : goal.returns-in_err-extend_from_slice-clause-taken
returns-in_err-extend_from_slice-clause-taken g c =
    let remaining = g.D.Disk.left in
    let bytes = c.loop-bytes.bytes in
    let more = take c.in_ok-count.count c.read_front.new.room in
    let few : length (bytes.items ++ more) ≤ c.args.limit + 1 =
    omega (arith, length-append bytes.items more, length-take c.in_ok-count.count c.read_front.new.room, bytes.ok.0, c.loop-bytes.invariant.few, c.len-in-loop-bytes.ensures, c.in_ok-count.ensures.count.1, c.saturating_add-most.ensures) in
    (bytes.items ++ more, consumes_both (remaining c.args.file.now) (remaining c.loop-bytes.file) (remaining c.read_front.new.file) bytes.items more c.loop-bytes.invariant.taken c.in_ok-count.ensures.bytes, few)
