use Rattle.std.proofs.Common.{ap, ap₂, refl, ◌∙◌, map, string_bytes}
use Rattle.std.proofs.lemmas.Result.{IfErr-weaker, IfOk-weaker}
use Rattle.clap.specs.Words.{takes, matches_of, first_of, first_value, is_simple, found_of}
use Rattle.clap.proofs.WalkLemmas.{first_value-rows}
use Rattle.bl_command_line.proofs.Entries.{HasEntries, words-taken, words-found}
use Rattle.bl_command_line.proofs.Shapes.{simple}
use Rattle.bl_command_line.proofs.words.model_matches.Goals as goal

pub returns : goal.returns
returns c =
    let words = map string_bytes c.args.words.now in
    let parse = c.try_get_matches_from in
    let app = c.in_ok-model.ensures in
    let read = IfOk-weaker parse.result _ (λ m. HasEntries (first_value (found_of m)) c.args.asked.now)
    (λ m h. words-found c.args.command words c.args.asked.now c.requires (first_value (found_of m))
    (λ id. first_value-rows (found_of m) id
    ∙ ap (first_of id) ((h (ap is_simple app ∙ simple c.args.command)).0 ∙ ap₂ matches_of app refl)))
    parse.ensures.matches in
    record {
      mps = IfOk-weaker parse.result _ _ (λ m h. h.mps) read;
      aux = IfOk-weaker parse.result _ _ (λ m h. h.aux) read;
      cert = IfOk-weaker parse.result _ _ (λ m h. h.cert) read;
      upper = IfOk-weaker parse.result _ _ (λ m h. h.upper) read;
      nodes = IfOk-weaker parse.result _ _ (λ m h. h.nodes) read;
      follower_nodes = IfOk-weaker parse.result _ _ (λ m h. h.follower_nodes) read;
      refused = IfErr-weaker parse.result _ _
          (λ e h. h (ap₂ takes app refl ∙ words-taken c.args.command words c.args.asked.now c.requires))
          parse.ensures.passes;
    }
