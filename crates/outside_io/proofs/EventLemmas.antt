-- Puts, one list of events behind another.
use Rattle.std.proofs.Common.{◌≡◌, List, [], ◌∷◌, ◌++◌, refl, sym, ap, ◌∙◌, append_assoc, append-nil}
use Rattle.std.specs.Prelude.{None, Some}
use Rattle.std.specs.Option.{option_map}
use Rattle.std.specs.declared.option.Option.{Option}
use Rattle.std.specs.FinMap.{insert}
use Rattle.outside_io.specs.State.{Files, PutPair, FolderState}
use Rattle.outside_io.specs.Events.{Event, Read, Put, puts_of, files_after}
use Rattle.outside_io.specs.Met.{PutsGrew}

-- the puts of two lists of events are those of the first and then those of the second
puts_of-append : (xs ys : List Event) → puts_of (xs ++ ys) ≡ puts_of xs ++ puts_of ys
puts_of-append [] ys = refl
puts_of-append (Read name limit ∷ xs) ys = puts_of-append xs ys
puts_of-append (Put name bytes ∷ xs) ys = ap (λ ps. (name, bytes) ∷ ps) (puts_of-append xs ys)

applied-append : (xs ys : List PutPair) (files : Files) → files_after (xs ++ ys) files ≡ files_after ys (files_after xs files)
applied-append [] ys files = refl
applied-append (put ∷ xs) ys files = applied-append xs ys (insert files put.0 put.1)

-- the files after the first events and then the rest are those after all of them
pub applied_on : (first rest : List Event) (files : Files) → files_after (puts_of rest) (files_after (puts_of first) files) ≡ files_after (puts_of (first ++ rest)) files
applied_on first rest files = sym (ap (λ ps. files_after ps files) (puts_of-append first rest) ∙ applied-append (puts_of first) (puts_of rest) files)

grown : (before : Option (List PutPair)) (puts more : List PutPair) → option_map (λ xs. xs ++ more) (option_map (λ xs. xs ++ puts) before) ≡ option_map (λ xs. xs ++ (puts ++ more)) before
grown None puts more = refl
grown (Some xs) puts more = ap Some (append_assoc xs puts more)

-- the puts grew by those of the first events and then by those of the rest
pub grew_on : (old mid new : FolderState) (first rest : List Event) → PutsGrew old mid (puts_of first) → PutsGrew mid new (puts_of rest) → PutsGrew old new (puts_of (first ++ rest))
grew_on old mid new first rest p q =
    q ∙ (ap (option_map (λ xs. xs ++ puts_of rest)) p ∙ (grown old.puts (puts_of first) (puts_of rest)
    ∙ ap (λ ps. option_map (λ xs. xs ++ ps) old.puts) (sym (puts_of-append first rest))))

-- puts that are as before grew by none
pub grew_by_none : (s t : Option (List PutPair)) → t ≡ s → t ≡ option_map (λ before. before ++ []) s
grew_by_none None t e = e
grew_by_none (Some puts) t e = e ∙ ap Some (sym (append-nil puts))
