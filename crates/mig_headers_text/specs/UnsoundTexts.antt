-- The printed texts of what makes a host unsound: number, name and arguments, parted by one space.
use Rattle.std.specs.Prelude.{ℕ, List, [], ◌∷◌, ◌++◌, codes, decimal}
use Rattle.mig_headers.specs.declared.unsound.Unsound.{Unsound}
use Rattle.mig_headers.specs.declared.unsound.Unsound.TheVariants.{Missing, P2mFrame, Superpage, NoFrame, GdtEnts, VcpuFrame, BadContext}
use Rattle.mig_headers_text.specs.Texts.{spaced, words_of_context}

-- the number of a cause
abbrev pub number_of_unsound : Unsound → ℕ
number_of_unsound (Missing _) = 1
number_of_unsound (P2mFrame _) = 2
number_of_unsound (Superpage _ _) = 3
number_of_unsound (NoFrame _ _) = 4
number_of_unsound (GdtEnts _ _) = 5
number_of_unsound (VcpuFrame _ _) = 6
number_of_unsound (BadContext _) = 7

-- the words of a cause: its name, and its arguments
abbrev pub words_of_unsound : Unsound → List (List ℕ)
words_of_unsound (Missing type) = codes "Missing" ∷ decimal type ∷ []
words_of_unsound (P2mFrame index) = codes "P2mFrame" ∷ decimal index ∷ []
words_of_unsound (Superpage pfn slot) = codes "Superpage" ∷ decimal pfn ∷ decimal slot ∷ []
words_of_unsound (NoFrame pfn slot) = codes "NoFrame" ∷ decimal pfn ∷ decimal slot ∷ []
words_of_unsound (GdtEnts id count) = codes "GdtEnts" ∷ decimal id ∷ decimal count ∷ []
words_of_unsound (VcpuFrame id field) = codes "VcpuFrame" ∷ decimal id ∷ decimal field ∷ []
words_of_unsound (BadContext fault) = codes "BadContext" ∷ words_of_context fault

abbrev pub text_of_unsound : Unsound → List ℕ
text_of_unsound unsound = decimal (number_of_unsound unsound) ++ spaced (words_of_unsound unsound)
