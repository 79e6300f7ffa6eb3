use Rattle.std.proofs.Common.{◌≡◌, ◌+◌, ◌++◌, ◌∷◌, [], Err, length, is_ok, rules, arith, sym, ap, ◌∙◌, subst}
use Rattle.std.specs.List.{All}
use Rattle.std.proofs.lemmas.Grind.{common_steps}
use Rattle.std.proofs.lemmas.List.{length-append}
use Rattle.scmi_judge.specs.Exact.{AreTried, HaveGrown, IsKept, IsTriedWhole}
use Rattle.scmi_judge.specs.Guess.{IsReal}
use Rattle.scmi_judge.specs.Guesses.{AreFound, AreMany, FindsMany, KeepBoard, StayFound, places}
use Rattle.scmi_judge.proofs.Among.{all-kept, kept-moved, real-moved, tried-moved}
use Rattle.scmi_judge.proofs.Boards.{of-popped, of-pushed}
use Rattle.scmi_judge.proofs.Different.{found-moved, if-err}
use Rattle.scmi_judge.proofs.guesses.Guesses.close.Goals as goal

pub try_steps-tried-requires : goal.try_steps-tried-requires
try_steps-tried-requires c =
    let board = c.requires.boards.0 in
    let before = c.each.invariant.keeps.boards board c.requires.boards.1 in
    let both = of-popped board _ _ c.in-Some.guess c.in-Some.ensures.items before.left in
    record {
      boards = (
        board,
        record {
          left = both.0;
          tried = before.tried;
          others = before.others;
          spare = before.spare;
          made = before.made;
        },
        both.1,
      );
    }

pub returns-in_err-tried-clause-keeps : goal.returns-in_err-tried-clause-keeps
returns-in_err-tried-clause-keeps c =
    let from : KeepBoard c.args.self.now c.try_steps-tried.new.self =
    record {
      boards = λ board of.
          let before = c.each.invariant.keeps.boards board of in
          let both = of-popped board _ _ c.in-Some.guess c.in-Some.ensures.items before.left in
          c.try_steps-tried.ensures.keeps.boards board (record {
            left = both.0;
            tried =
                before.tried;
            others = before.others;
            spare = before.spare;
            made = before.made;
          });
      unseen = c.try_steps-tried.ensures.keeps.unseen ∙ c.each.invariant.keeps.unseen;
    } in
    record {
      boards = λ board of.
          let before = c.each.invariant.keeps.boards board of in
          let both = of-popped board _ _ c.in-Some.guess c.in-Some.ensures.items before.left in
          let after = from.boards board of in
          record {
            left = after.left;
            others = after.others;
            spare = after.spare;
            made = after.made;
            tried = of-pushed board _ _ c.in-Some.guess
                (is_ok c.push.result) c.push.ensures.items after.tried both.1;
          };
      unseen = from.unseen;
    }

pub returns-in_default-push-clause-keeps : goal.returns-in_default-push-clause-keeps
returns-in_default-push-clause-keeps c =
    let from : KeepBoard c.args.self.now c.try_steps-tried.new.self =
    record {
      boards = λ board of.
          let before = c.each.invariant.keeps.boards board of in
          let both = of-popped board _ _ c.in-Some.guess c.in-Some.ensures.items before.left in
          c.try_steps-tried.ensures.keeps.boards board (record {
            left = both.0;
            tried =
                before.tried;
            others = before.others;
            spare = before.spare;
            made = before.made;
          });
      unseen = c.try_steps-tried.ensures.keeps.unseen ∙ c.each.invariant.keeps.unseen;
    } in
    record {
      boards = λ board of.
          let before = c.each.invariant.keeps.boards board of in
          let both = of-popped board _ _ c.in-Some.guess c.in-Some.ensures.items before.left in
          let after = from.boards board of in
          record {
            left = after.left;
            others = after.others;
            spare = after.spare;
            made = after.made;
            tried = of-pushed board _ _ c.in-Some.guess
                (is_ok c.push.result) c.push.ensures.items after.tried both.1;
          };
      unseen = from.unseen;
    }

pub each-preserved : goal.each-preserved
each-preserved c =
    let from : KeepBoard c.args.self.now c.try_steps-tried.new.self =
    record {
      boards = λ board of.
          let before = c.each.invariant.keeps.boards board of in
          let both = of-popped board _ _ c.in-Some.guess c.in-Some.ensures.items before.left in
          c.try_steps-tried.ensures.keeps.boards board (record {
            left = both.0;
            tried =
                before.tried;
            others = before.others;
            spare = before.spare;
            made = before.made;
          });
      unseen = c.try_steps-tried.ensures.keeps.unseen ∙ c.each.invariant.keeps.unseen;
    } in
    let r = c.args.self.now.unseen in
    let g = c.in-Some.guess in
    let guesses = c.args.self.now.left.items in
    let all = c.each.self.tried.items in
    let untried = c.each.self.left.items in
    let rest = c.pop.new.self.items in
    let new = c.try_steps-tried.new.self.left.items in
    let before = c.each.invariant in
    let are = c.in-Some.ensures.items in
    let pushed : c.push.new.self.items ≡ all ++ g ∷ [] = c.in-Ok.ensures.items
    ∙ ap (λ v. v.items ++ g ∷ []) c.try_steps-tried.ensures.tried in
    let grown =
    subst (λ x. HaveGrown x g rest new) before.keeps.unseen c.in_ok-tried.ensures.grown in
    let whole = subst (λ x. IsTriedWhole x g ((all ++ g ∷ []) ++ new)) before.keeps.unseen
    c.in_ok-tried.ensures.whole in
    record {
      keeps = record {
        boards = λ board of.
            let both = of-popped board untried rest g are (before.keeps.boards board of).left in
            let after = from.boards board of in
            record {
              left = after.left;
              others = after.others;
              spare = after.spare;
              made = after.made;
              tried = of-pushed board _ _ g
                  (is_ok c.push.result) c.push.ensures.items after.tried both.1;
            };
        unseen = from.unseen;
      };
      others = c.try_steps-tried.ensures.others ∙ before.others;
      places =
          let popped : length untried ≡ length rest + 1 = ap length are
          ∙ length-append rest (g ∷ []) in
          let more : length c.push.new.self.items ≡ length all + 1 = ap length pushed
          ∙ length-append all (g ∷ []) in
          let so_far = c.in_ok-tried.ensures.places in
          let same = before.places in
          let tried = ap (λ v. length v.items) c.try_steps-tried.ensures.tried in
          omega (arith, popped, more, so_far, same, tried);
      found = λ board entries found.
          subst (λ xs. AreFound r board entries xs new) (sym pushed)
          (subst (λ x. StayFound x g all rest new) before.keeps.unseen c.in_ok-tried.ensures.found
          board entries (found-moved r board entries all untried rest g are
          (before.found board entries found)));
      kept = subst (λ xs. IsKept r guesses xs new) (sym pushed)
          (kept-moved r all untried rest new g are grown guesses before.kept);
      tried = subst (λ xs. AreTried r xs new) (sym pushed)
          (tried-moved r all untried rest new g are grown whole before.tried);
      real = λ board entries real. subst
          (λ xs. All (IsReal r board entries) xs × All (IsReal r board entries) new) (sym pushed)
          (real-moved r all untried rest new g are grown board entries
          (before.real board entries real));
    }

pub returns-clause-kept : goal.returns-clause-kept
returns-clause-kept c =
    let before = c.each.invariant in
    let none : c.each.self.left.items ≡ [] = first_of (search rules, grind (arith, common_steps)) in
    all-kept c.args.self.now.unseen c.args.self.now.left.items c.each.self.tried.items
    c.each.self.left.items none before.kept before.real

pub returns-in_err-tried-clause-full : goal.returns-in_err-tried-clause-full
returns-in_err-tried-clause-full c =
    let r = c.args.self.now.unseen in
    let g = c.in-Some.guess in
    let all = c.each.self.tried.items in
    let untried = c.each.self.left.items in
    let rest = c.pop.new.self.items in
    let before = c.each.invariant in
    let are = c.in-Some.ensures.items in
    let count : 2 + (length rest + length all + length c.each.self.spare.items)
    ≡ 1 + places c.args.self.now =
    let popped : length untried ≡ length rest + 1 = ap length are ∙ length-append rest (g ∷ []) in
    let same = before.places in
    omega (arith, popped, same) in
    let failed : c.from_residual.result ≡ Err c.in_err-tried.field-0.0 =
    first_of (search rules, grind (arith, common_steps)) in
    if-err c.from_residual.result c.in_err-tried.field-0.0 _ failed
    (λ full board entries found.
    subst (λ x. AreMany r board entries x) count
    (subst (λ x. FindsMany x (all ++ g ∷ []) rest
    (2 + (length rest + length all + length c.each.self.spare.items))) before.keeps.unseen
    (c.in_err-tried.ensures.full full) board entries
    (found-moved r board entries all untried rest g are (before.found board entries found))))

pub each-smaller : goal.each-smaller
each-smaller c =
    let popped : length c.each.self.left.items ≡ length c.pop.new.self.items + 1 = ap length
    c.in-Some.ensures.items ∙ length-append c.pop.new.self.items (c.in-Some.guess ∷ []) in
    let so_far = c.in_ok-tried.ensures.places in
    let tried = ap (λ v. length v.items) c.try_steps-tried.ensures.tried in
    omega (arith, popped, so_far, tried)

pub returns-clause-places : goal.returns-clause-places
returns-clause-places c =
    let none : length c.pop.new.self.items ≡ length c.each.self.left.items =
    first_of (search rules, grind (arith, common_steps)) in
    let same = c.each.invariant.places in
    omega (arith, none, same)

pub returns-clause-found : goal.returns-clause-found
returns-clause-found c board entries found =
    let none : c.each.self.left.items ≡ [] = first_of (search rules, grind (arith, common_steps)) in
    subst (AreFound c.args.self.now.unseen board entries c.each.self.tried.items) none
    (c.each.invariant.found board entries found)

pub returns-in_err-tried-clause-room : goal.returns-in_err-tried-clause-room
returns-in_err-tried-clause-room c =
    let g = c.in-Some.guess in
    let popped : length c.each.self.left.items ≡ length c.pop.new.self.items + 1 =
    ap length c.in-Some.ensures.items ∙ length-append c.pop.new.self.items (g ∷ []) in
    let pushed : c.push.new.self.items ≡ c.each.self.tried.items ++ g ∷ [] =
    c.in-Ok.ensures.items ∙ ap (λ v. v.items ++ g ∷ []) c.try_steps-tried.ensures.tried in
    let more : length c.push.new.self.items ≡ length c.each.self.tried.items + 1 =
    ap length pushed ∙ length-append c.each.self.tried.items (g ∷ []) in
    let same = c.each.invariant.places in
    let tried = ap (λ v. length v.items) c.try_steps-tried.ensures.tried in
    let failed : c.from_residual.result ≡ Err c.in_err-tried.field-0.0 =
    first_of (search rules, grind (arith, common_steps)) in
    if-err c.from_residual.result c.in_err-tried.field-0.0 _ failed
    (λ full. let room = c.in_err-tried.ensures.room full in
    omega (arith, popped, more, same, tried, room))
