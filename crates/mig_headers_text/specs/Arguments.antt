-- What the words behind a cause's name are made of.
use Rattle.std.specs.Prelude.{List, ℕ, [], ◌∷◌, decimal}
use Rattle.mig_headers_text.specs.declared.text.Arguments.{Arguments}
use Rattle.mig_headers_text.specs.declared.text.Arguments.TheVariants.{Nothing, One, Two, Three, Context}
use Rattle.mig_headers_text.specs.Texts.{words_of_context}

abbrev pub argument_texts : Arguments → List (List ℕ)
argument_texts Nothing = []
argument_texts (One a) = decimal a ∷ []
argument_texts (Two a b) = decimal a ∷ decimal b ∷ []
argument_texts (Three a b c) = decimal a ∷ decimal b ∷ decimal c ∷ []
argument_texts (Context fault) = words_of_context fault
