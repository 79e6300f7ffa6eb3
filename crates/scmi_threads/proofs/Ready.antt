-- Endpoints beside their links.
use Rattle.std.proofs.Common.{◌≡◌, ℕ, zero, suc, ◌+◌, ◌<◌, ◌≤◌, List, [], ◌∷◌, ◌++◌, length, map, get_or, take, drop, arith, ap, sym, subst, ◌∙◌}
use Rattle.std.specs.Prelude.{remove}
use Rattle.std.specs.List.{AllZip}
use Rattle.std.proofs.lemmas.List.{map-append, drop_more, take_more, take_all}
use Rattle.scmi_ends.specs.Each.{AllFrom}
use Rattle.scmi_ends.specs.AgentView.{AgentView, IsNewAgent}
use Rattle.scmi_threads.specs.ScriptRuns.{IsNewOnLink}

pub all_ready : {L : Type 0} (f k : L → List ℕ) (n : ℕ) (ls : List L) (es : List AgentView)
    → map (λ e. e.a2p_identity) es ≡ map f ls → map (λ e. e.p2a_identity) es ≡ map k ls
    → AllFrom IsNewAgent n es → AllZip (λ l e. IsNewOnLink (f l) (k l) e) ls es
all_ready f k n [] [] p q h = tt
all_ready f k n [] (e ∷ es) p q h = absurd (omega (arith, ap length p))
all_ready f k n (l ∷ ls) [] p q h = absurd (omega (arith, ap length p))
all_ready f k n (l ∷ ls) (e ∷ es) p q h = (
  record {
    fits = record {
      of_a2p = ap (λ zs. get_or zs 0 (e.a2p_identity)) p;
      of_p2a = ap (λ zs. get_or zs 0 (e.p2a_identity)) q;
    };
    caller = h.0.caller;
    callee = h.0.callee;
    token = h.0.token;
  },
  all_ready f k (n + 1) ls es (ap (drop 1) p) (ap (drop 1) q) h.1,
)

front_of : {L E : Type 0} (R : L → E → Type 0) (l : L) (ls : List L) (es es' : List E) (e : E)
    → AllZip R (l ∷ ls) es → e ≡ get_or es 0 e → es' ≡ remove es 0 → R l e × AllZip R ls es'
front_of R l ls [] es' e h is rs = absurd h
front_of R l ls (x ∷ es) es' e h is rs = (subst (R l) (sym is) h.0, rw rs h.1)

pub run_step : {L E : Type 0} (R : L → E → Type 0) (ls : List L) (i : ℕ) (d : L) (es es' : List E)
    (e : E) → i < length ls → AllZip R (drop i ls) es → e ≡ get_or es 0 e → es' ≡ remove es 0
    → R (get_or ls i d) e × AllZip R (drop (i + 1) ls) es'
run_step R ls i d es es' e lt h is rs = front_of R (get_or ls i d) (drop (i + 1) ls) es es' e
    (subst (λ zs. AllZip R zs es) (drop_more ls i d lt) h) is rs

pub some_left : {L E : Type 0} (R : L → E → Type 0) (ls : List L) (i : ℕ) (es : List E)
    → i < length ls → AllZip R (drop i ls) es → 0 < length es
some_left R [] i es lt h = absurd (omega arith)
some_left R (l ∷ ls) zero [] lt h = absurd h
some_left R (l ∷ ls) zero (e ∷ es) lt h = omega arith
some_left R (l ∷ ls) (suc i) es lt h = some_left R ls i es (omega arith) h

pub started : {S L : Type 0} (f : S → List ℕ) (g : L → List ℕ) (ss ss' : List S) (ls : List L)
    (i : ℕ) (s : S) (d : L) → i < length ls → map f ss ≡ map g (take i ls) → ss' ≡ ss ++ s ∷ []
    → f s ≡ g (get_or ls i d) → map f ss' ≡ map g (take (i + 1) ls)
started f g ss ss' ls i s d lt h e same =
    ap (map f) e ∙ map-append f ss (s ∷ [])
    ∙ ap (λ ns. ns ++ f s ∷ []) h ∙ ap (λ n. map g (take i ls) ++ n ∷ []) same ∙ sym
    (map-append g (take i ls) (get_or ls i d ∷ [])) ∙ ap (map g) (sym (take_more ls i d lt))

pub all_started : {S L : Type 0} (f : S → List ℕ) (g : L → List ℕ) (ss : List S) (ls : List L)
    (i : ℕ) → length ls ≤ i → map f ss ≡ map g (take i ls) → map f ss ≡ map g ls
all_started f g ss ls i le h = h ∙ ap (map g) (take_all i ls le)
