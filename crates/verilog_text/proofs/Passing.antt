-- A machine that passes over tokens, whatever follows.
use Rattle.std.proofs.Common.{◌≡◌, List, ◌∷◌, Result, Ok}
use Rattle.verilog_text.specs.declared.token.Token.{Token}
use Rattle.verilog_text.specs.declared.token.Why.{Why}

-- the machine goes from one state to the other over these tokens, whatever follows
pub data Passing {S : Type 0} (step : S → Token → Result S Why) : S → (List Token → List Token) → S → Type 0 where
  one : {s s' : S} (t : Token) → step s t ≡ Ok s' → Passing step s (λ ts. t ∷ ts) s'
  chained : {s s' s'' : S} {f g : List Token → List Token} → Passing step s f s' → Passing step s' g s'' → Passing step s (λ ts. f (g ts)) s''

-- what one machine does, another does around it
pub lift : {S T : Type 0} (inner : S → Token → Result S Why) (outer : T → Token → Result T Why) (make : S → T) → ((s s' : S) (t : Token) → inner s t ≡ Ok s' → outer (make s) t ≡ Ok (make s')) → (s s' : S) (f : List Token → List Token) → Passing inner s f s' → Passing outer (make s) f (make s')
lift inner outer make each s s' f (one t e) = one t (each s s' t e)
lift inner outer make each s s' f (chained {s' = middle} {f = first} {g = second} a b) = chained (lift inner outer make each s middle first a) (lift inner outer make each middle s' second b)

-- a state that begins as another one goes on as it
pub resume : {S : Type 0} (step : S → Token → Result S Why) (other s s' : S) (f : List Token → List Token) → ((t : Token) (next : S) → step s t ≡ Ok next → step other t ≡ Ok next) → Passing step s f s' → Passing step other f s'
resume step other s s' f same (one t e) = one t (same t s' e)
resume step other s s' f same (chained {s' = middle} {f = first} {g = second} a b) = chained (resume step other s middle first same a) b
