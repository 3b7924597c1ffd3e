-- What came is the front of what was left.
use Rattle.std.proofs.Common.{◌≡◌, ◌≤◌, ℕ, ◌+◌, ◌-◌, List, ◌++◌, length, take, sym, ap, ◌∙◌, arith}
use Rattle.std.specs.Prelude.{drop}
use Rattle.std.proofs.Math.Seq.{take-append_seam}
use Rattle.std.proofs.lemmas.List.{drop-drop, length-take, take_rest, take-append-drop}
use Rattle.outside_io.proofs.mem_reader.MemReader.next.Goals as goal

-- bytes that were copied from behind a place are those up to the next place
came : (at n : ℕ) (bytes held copied rest : List ℕ) → held ≡ bytes → copied ≡ take n (take (length held - at) (drop at held)) → length copied ≡ n → drop at bytes ≡ take n (copied ++ rest) ++ drop (at + n) bytes
came at n bytes held copied rest same is long =
    sym (ap (λ f. f ++ drop (at + n) bytes) (front ∙ front_is) ∙ (ap (λ b. take n (drop at bytes) ++ b) (sym (drop-drop n at bytes)) ∙ take-append-drop n (drop at bytes)))
  where
    front : take n (copied ++ rest) ≡ copied
    front = ap (λ m. take m (copied ++ rest)) (sym long) ∙ take-append_seam copied rest

    front_is : copied ≡ take n (drop at bytes)
    front_is = is ∙ (ap (λ l. take n (take (length l - at) (drop at l))) same ∙ ap (λ l. take n l) (take_rest bytes at))

pub returns-clause-bytes : goal.returns-clause-bytes
returns-clause-bytes c =
    let n = c.min-count.result in
    let few : n ≤ length c.args.room.now = omega (arith, c.min-count.ensures) in
    came c.args.self.now.at n c.args.self.now.bytes.items c.deref.result.now c.copy_from_slice.new.self _ c.deref.ensures.value c.copy_from_slice.ensures.after
    (c.copy_from_slice.ensures.len ∙ length_of_front n c.args.room.now few)
  where
    length_of_front : (n : ℕ) (xs : List ℕ) → n ≤ length xs → length (take n xs) ≡ n
    length_of_front n xs few = omega (arith, length-take n xs, few)
