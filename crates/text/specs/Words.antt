-- The words that lines begin with. Assumes nothing.
use Rattle.std.specs.Prelude.{ℕ, List, [], ◌∷◌, Option, bytes_eq, codes, find}
use Rattle.text.specs.declared.word.Word.{Word}
use Rattle.text.specs.declared.word.Word.TheVariants.{Flags, Band, Turned, Exact, Both, Machine, Trace, Label, Step}

abbrev pub letters_of : Word → List ℕ
letters_of Flags = codes "flags"
letters_of Band = codes "band"
letters_of Turned = codes "turned"
letters_of Exact = codes "exact"
letters_of Both = codes "both"
letters_of Machine = codes "machine"
letters_of Trace = codes "trace"
letters_of Label = codes "label"
letters_of Step = codes "step"

abbrev pub all_words : List Word
all_words = Flags ∷ Band ∷ Turned ∷ Exact ∷ Both ∷ Machine ∷ Trace ∷ Label ∷ Step ∷ []

-- The word that the bytes are, if any.
abbrev pub word_of : List ℕ → Option Word
word_of bytes = find (λ w. bytes_eq (letters_of w) bytes) all_words
