use Rattle.tb_places.proofs.Faces.{face_number_below, face_number_apart, face_place_of_number, face_number_of_place, face_place_within}
use Rattle.tb_places.proofs.laws.faces_are_numbered.Goals as goal

pub returns : goal.returns
returns c = record {
  below = face_number_below;
  apart = face_number_apart;
  place_of_number = face_place_of_number;
  number_of_place = face_number_of_place;
  within = face_place_within;
}
